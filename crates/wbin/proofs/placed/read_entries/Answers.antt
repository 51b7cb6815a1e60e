use Rattle.std.proofs.Common.{◌≡◌, ◌++◌, ◌∷◌, [], ◌∙◌, ap, sym, subst, not, length, map, arith, refl}
use Rattle.std.specs.Prelude.{All}
use Rattle.std.proofs.lemmas.List.Elements.{All-nil, All-push}
use Rattle.std.proofs.lemmas.Result.{err_from_is_err_and}
use Rattle.wbin.specs.inside.Reading.{Reads}
use Rattle.wbin.proofs.Vectors.{each_none_yet, each_more, each_missing}
use Rattle.wbin.proofs.placed.read_entries.Goals as goal

pub loop-i-init : goal.loop-i-init
loop-i-init g c = record {
  each = each_none_yet g.P.Part.spells (g.P.Part.seen c.args.bytes.now) c.args.bytes.now c.args.at _ c.new-entries.ensures.items c.requires;
  placed = subst (All (g.P.Part.placed c.args.bytes.now)) (sym c.new-entries.ensures.items) (All-nil (g.P.Part.placed c.args.bytes.now));
}

pub read-requires : goal.read-requires
read-requires g c = c.loop-i.invariant.each.within

pub returns-then-is_err-clause-read : goal.returns-then-is_err-clause-read
unfolding Reads
returns-then-is_err-clause-read g c = λ m. absurd (m refl)

pub returns-in_err-entry-clause-read : goal.returns-in_err-entry-clause-read
unfolding Reads
returns-in_err-entry-clause-read g c =
    let p = err_from_is_err_and c.from_residual.result c.from_residual.ensures.1 in
    rw (p.1, p.2)
    (λ m. each_missing g.P.Part.spells (g.P.Part.seen c.args.bytes.now) c.args.bytes.now c.args.at _ _ _ _ g.met.P.Part.once c.loop-i-test.true c.loop-i.invariant.each (c.in_err-entry.ensures.read m))

pub loop-i-preserved : goal.loop-i-preserved
loop-i-preserved g c =
    let e = c.is_err.ensures.negation ∙ ap not c.if-is_err.false in
    let n : c.push.new.self.items ≡ c.loop-i.entries.items ++ c.in_ok-entry.entry ∷ [] = rw e at c.push.ensures.items in
    record {
      each = each_more g.P.Part.spells (g.P.Part.seen c.args.bytes.now) c.args.bytes.now c.args.at c.loop-i.entries.items c.loop-i.place c.loop-i._i c.in_ok-entry.entry c.in_ok-entry.next c.push.new.self.items
          n c.loop-i.invariant.each c.in_ok-entry.ensures.read;
      placed = subst (All (g.P.Part.placed c.args.bytes.now)) (sym n)
          (All-push (g.P.Part.placed c.args.bytes.now) c.loop-i.entries.items c.in_ok-entry.entry c.loop-i.invariant.placed c.in_ok-entry.ensures.placed);
    }

pub returns-clause-read : goal.returns-clause-read
unfolding Reads
returns-clause-read g c =
    let i = c.loop-i.invariant.each in
    let e : length (map (g.P.Part.seen c.args.bytes.now) c.loop-i.entries.items) ≡ c.args.count = omega (arith, i.counted) in
    (i.within, (e, i.spelled))
