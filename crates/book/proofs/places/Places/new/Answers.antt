use Rattle.std.proofs.Common.{◌≡◌, ℕ, zero, suc, [], ◌∷◌, None, length, map, replicate, refl, sym, ap, subst, ◌∙◌, arith}
use Rattle.std.specs.Prelude.{IfSome}
use Rattle.std.proofs.lemmas.List.{length-replicate}
use Rattle.std.specs.FinMap as fin
use Rattle.name_table.specs.Slots.{Slots, map_of, filled}
use Rattle.book.specs.inside.Totals.{IsCounted}
use Rattle.book.specs.inside.Finishes.{finish_in, IsGathered}
use Rattle.book.specs.declared.finishes.TheConstants.{NEVER}
use Rattle.book.specs.declared.place.Place.{Place}
use Rattle.quant.specs.declared.amount.Res.{Res}
use Rattle.book.proofs.TotalLemmas.{counted_empty}
use Rattle.book.proofs.TableLemmas.{held}
use Rattle.book.proofs.places.Places.new.Goals as goal

-- free slots hold nothing
no_entry : (X : Type 0) (n : ℕ) → filled {X = X} (replicate n None) ≡ []
no_entry X zero = refl
no_entry X (suc n) = no_entry X n

free : (X : Type 0) (s : Slots X) (n : ℕ) → s ≡ replicate n None → map_of s ≡ fin.empty
free X s n e = ap map_of e ∙ ap fin.from_entries (no_entry X n)

never : (n : ℕ) → map finish_in (replicate n None) ≡ replicate n NEVER
never zero = refl
never (suc n) = ap (λ l. NEVER ∷ l) (never n)

as_long : (X : Type 0) (s : Slots X) (n : ℕ) → s ≡ replicate n None → length s ≡ n
as_long X s n e = ap length e ∙ length-replicate n None

pub invariant_of-result : goal.invariant_of-result
invariant_of-result c =
    let places = c.in-Ok-new-3.by_uid in
    let totals = c.in-Ok-new-2.totals in
    record {
      counted = subst (λ n. IsCounted (map_of places) (length places) (map_of totals) n 0) (sym (as_long Res totals _ c.in-Ok-new-2.ensures))
          (subst (λ t. IsCounted (map_of places) (length places) t c.args.room 0) (sym (free Res totals _ c.in-Ok-new-2.ensures))
          (subst (λ n. IsCounted (map_of places) n fin.empty c.args.room 0) (sym (as_long Place places _ c.in-Ok-new-3.ensures))
          (subst (λ m. IsCounted m c.args.room fin.empty c.args.room 0) (sym (free Place places _ c.in-Ok-new-3.ensures)) (counted_empty c.args.room c.requires))));
      timed = c.in-Ok.ensures ∙ sym (never c.args.room) ∙ ap (map finish_in) (sym c.in-Ok-new-3.ensures);
      room = omega (arith, c.in-Ok-new.ensures.room, as_long Place places _ c.in-Ok-new-3.ensures);
      gathered = subst (λ o. IfSome o (λ limit. IsGathered (map_of places) limit c.in-Ok-new.overdue.names.items c.in-Ok-new.overdue.given)) (sym c.in-Ok-new.ensures.none) tt;
    }

pub returns : goal.returns
returns c = λ i. held (free Place c.in-Ok-new-3.by_uid _ c.in-Ok-new-3.ensures i) (as_long Place c.in-Ok-new-3.by_uid _ c.in-Ok-new-3.ensures i)
