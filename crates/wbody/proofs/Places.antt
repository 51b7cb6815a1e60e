-- How the bytes of a body go on behind one word.
use Rattle.std.proofs.Common.{◌≡◌, ℕ, ◌-◌, List, ◌∷◌, Bool, true, false, inl, inr, length, refl, sym, subst, arith}
use Rattle.wcode.specs.declared.value.BlockType.{BlockType}
use Rattle.wcode.specs.declared.instruction.Plain.{Plain}
use Rattle.wcode.specs.declared.opcode.Opening.TheVariants as openings
use Rattle.wcode.specs.Syntax.{Body, done, plain, block, loop, if_else, br_table}
use Rattle.wcode.specs.Grammar.{one, opens, end, table, SpellsWord, SpellsBody}
use Rattle.wcode.specs.inside.Ended.{closing, SpellsArms}
use Rattle.wcode.proofs.Items.{first, first_is, item_plain, item_table, block_parts, loop_parts, if_parts}
use Rattle.wcode.proofs.Unique.{word_once}
use Rattle.wbody.specs.declared.scope.Opened.TheVariants as opened
use Rattle.wbody.specs.inside.Pass.{Stack}
use Rattle.wbody.specs.inside.Standing.{Open, ArmEnds, GoesOn, Spelled}
use Rattle.wbody.proofs.Outcomes.{opened_block, opened_loop, opened_first, opened_second}

-- a plain instruction stands there
pub record PlainNext (os : List Open) (rest : Body) (p : Plain) (more final : List ℕ) : Type 0 where
  pub next : Body
  pub rest_is : rest ≡ plain p next
  pub spelled : Spelled os next more final

pub plain_next : (os : List Open) (rest : Body) (bytes final : List ℕ) (p : Plain) (more : List ℕ) → Spelled os rest bytes final → SpellsWord bytes (one p) more → PlainNext os rest p more final
plain_next os rest bytes final p more s w =
    let r = (item_plain (256 - length os) bytes p more w).only s.by_else rest s.after s.here in
    record { next = r.0; rest_is = r.1; spelled = record { by_else = s.by_else; after = s.after; here = r.2; goes_on = s.goes_on } }

-- a branch by an index stands there
pub record TableNext (os : List Open) (rest : Body) (labels : List ℕ) (default : ℕ) (more final : List ℕ) : Type 0 where
  pub next : Body
  pub rest_is : rest ≡ br_table labels default next
  pub spelled : Spelled os next more final

pub table_next : (os : List Open) (rest : Body) (bytes final : List ℕ) (labels : List ℕ) (default : ℕ) (more : List ℕ) → Spelled os rest bytes final → SpellsWord bytes (table labels default) more → TableNext os rest labels default more final
table_next os rest bytes final labels default more s w =
    let r = (item_table (256 - length os) bytes labels default more w).only s.by_else rest s.after s.here in
    record { next = r.0; rest_is = r.1; spelled = record { by_else = s.by_else; after = s.after; here = r.2; goes_on = s.goes_on } }

fewer : (os : List Open) (o : Open) → 256 - length os - 1 ≡ 256 - length (o ∷ os)
fewer os o = omega arith

-- a block opens there
pub record BlockNext (os : List Open) (rest : Body) (make : Body → Body → Body) (opening : Body → Open) (more final : List ℕ) : Type 0 where
  pub inside : Body
  pub next : Body
  pub rest_is : rest ≡ make inside next
  pub spelled : Spelled (opening next ∷ os) inside more final

pub block_next : (os : List Open) (rest : Body) (bytes final : List ℕ) (t : BlockType) (s : Stack) (floor : ℕ) (more : List ℕ) → Spelled os rest bytes final → SpellsWord bytes (opens openings.Block t) more → BlockNext os rest (block t) (λ next. opened_block t s next floor) more final
block_next os rest bytes final t s floor more sp w =
    let room = 256 - length os in
    let r = block_parts room bytes t more w sp.by_else rest sp.after sp.here (first_is room (closing sp.by_else) bytes rest sp.after (opens openings.Block t) more w sp.here) in
    let o = opened_block t s r.2 floor in
    record {
      inside = r.1;
      next = r.2;
      rest_is = r.4;
      spelled = record {
        by_else = false;
        after = r.3;
        here = subst (λ n. SpellsBody n end more r.1 r.3) (fewer os o) r.5;
        goes_on = (r.3, (refl, refl), sp.by_else, sp.after, r.6, sp.goes_on);
      };
    }

pub loop_next : (os : List Open) (rest : Body) (bytes final : List ℕ) (t : BlockType) (s : Stack) (floor : ℕ) (more : List ℕ) → Spelled os rest bytes final → SpellsWord bytes (opens openings.Loop t) more → BlockNext os rest (loop t) (λ next. opened_loop t s next floor) more final
loop_next os rest bytes final t s floor more sp w =
    let room = 256 - length os in
    let r = loop_parts room bytes t more w sp.by_else rest sp.after sp.here (first_is room (closing sp.by_else) bytes rest sp.after (opens openings.Loop t) more w sp.here) in
    let o = opened_loop t s r.2 floor in
    record {
      inside = r.1;
      next = r.2;
      rest_is = r.4;
      spelled = record {
        by_else = false;
        after = r.3;
        here = subst (λ n. SpellsBody n end more r.1 r.3) (fewer os o) r.5;
        goes_on = (r.3, (refl, refl), sp.by_else, sp.after, r.6, sp.goes_on);
      };
    }

-- an if opens there
pub record IfNext (os : List Open) (rest : Body) (t : BlockType) (low : Stack) (floor : ℕ) (more final : List ℕ) : Type 0 where
  pub yes_arm : Body
  pub no_arm : Body
  pub next : Body
  pub rest_is : rest ≡ if_else t yes_arm no_arm next
  pub spelled : Spelled (opened_first t low no_arm next floor ∷ os) yes_arm more final

pub if_next : (os : List Open) (rest : Body) (bytes final : List ℕ) (t : BlockType) (low : Stack) (floor : ℕ) (more : List ℕ) → Spelled os rest bytes final → SpellsWord bytes (opens openings.If t) more → IfNext os rest t low floor more final
if_next os rest bytes final t low floor more sp w =
    let room = 256 - length os in
    let r = if_parts room bytes t more w sp.by_else rest sp.after sp.here (first_is room (closing sp.by_else) bytes rest sp.after (opens openings.If t) more w sp.here) in
    let o = opened_first t low r.2 r.3 floor in
    let arms : SpellsArms (256 - length (o ∷ os)) more r.1 r.2 r.4 = subst (λ n. SpellsArms n more r.1 r.2 r.4) (fewer os o) r.6 in
    record {
      yes_arm = r.1;
      no_arm = r.2;
      next = r.3;
      rest_is = r.5;
      spelled = elim arms [
        | inl h ↦ record { by_else = false; after = r.4; here = h.1; goes_on = (r.4, (h.0, refl), sp.by_else, sp.after, r.7, sp.goes_on) }
        | inr h ↦ record { by_else = true; after = h.0; here = h.1; goes_on = (r.4, h.2, sp.by_else, sp.after, r.7, sp.goes_on) }
      ];
    }

-- the word that ends a body is the body's where nothing is left of it
done_here : (room : ℕ) (e f : Bool) (bytes : List ℕ) (rest : Body) (after more : List ℕ) → SpellsBody room (closing e) bytes rest after → SpellsWord bytes (closing f) more → closing f ≡ first (closing e) rest → (rest ≡ done) × (e ≡ f) × (after ≡ more)
unfolding SpellsBody
done_here room e f bytes done after more s w g =
    let o = word_once bytes (closing e) (closing f) after more s w in (refl, same e f (sym g), o.1)
  where
    same : (e f : Bool) → closing e ≡ closing f → e ≡ f
    same true true g = refl
    same true false g = absurd (cc)
    same false true g = absurd (cc)
    same false false g = refl
done_here room e true bytes (plain p next) after more s w g = absurd (cc)
done_here room e false bytes (plain p next) after more s w g = absurd (cc)
done_here room e true bytes (block t inner next) after more s w g = absurd (cc)
done_here room e false bytes (block t inner next) after more s w g = absurd (cc)
done_here room e true bytes (loop t inner next) after more s w g = absurd (cc)
done_here room e false bytes (loop t inner next) after more s w g = absurd (cc)
done_here room e true bytes (if_else t yes_arm no_arm next) after more s w g = absurd (cc)
done_here room e false bytes (if_else t yes_arm no_arm next) after more s w g = absurd (cc)
done_here room e true bytes (br_table labels default next) after more s w g = absurd (cc)
done_here room e false bytes (br_table labels default next) after more s w g = absurd (cc)

-- an `else` or an `end` stands there
pub record Ends (os : List Open) (rest : Body) (by_else : Bool) (more final : List ℕ) : Type 0 where
  pub rest_is : rest ≡ done
  pub goes_on : GoesOn os by_else more final

pub ends_here : (os : List Open) (rest : Body) (bytes final : List ℕ) (f : Bool) (more : List ℕ) → Spelled os rest bytes final → SpellsWord bytes (closing f) more → Ends os rest f more final
ends_here os rest bytes final f more s w =
    let room = 256 - length os in
    let d = done_here room s.by_else f bytes rest s.after more s.here w (first_is room (closing s.by_else) bytes rest s.after (closing f) more w s.here) in
    record { rest_is = d.0; goes_on = subst (λ a. GoesOn os f a final) d.2 (subst (λ e. GoesOn os e s.after final) d.1 s.goes_on) }

-- an `else` stands behind the first arm of an if alone
pub else_of : (os : List Open) (o : Open) (more final : List ℕ) → GoesOn (o ∷ os) true more final → (o.kind ≡ opened.First) × Spelled (opened_second o ∷ os) o.second more final
else_of os o more final g = by_kind o.kind refl g.1
  where
    by_kind : (k : _) → o.kind ≡ k → ArmEnds k o.second (256 - length (o ∷ os)) true more g.0 → (o.kind ≡ opened.First) × Spelled (opened_second o ∷ os) o.second more final
    by_kind opened.First e a = (e, record { by_else = false; after = g.0; here = a; goes_on = (g.0, (refl, refl), g.2, g.3, g.4, g.5) })
    by_kind opened.Block e a = absurd (let n : true ≡ false = a.0 in cc)
    by_kind opened.Loop e a = absurd (let n : true ≡ false = a.0 in cc)
    by_kind opened.Second e a = absurd (let n : true ≡ false = a.0 in cc)

-- behind the `end` of a block; an if that ends there without `else` has an empty second arm
pub end_of : (os : List Open) (o : Open) (more final : List ℕ) → GoesOn (o ∷ os) false more final → (o.kind ≡ opened.First → o.second ≡ done) × Spelled os o.next more final
end_of os o more final g = by_kind o.kind refl g.1
  where
    behind : more ≡ g.0 → Spelled os o.next more final
    behind e = record { by_else = g.2; after = g.3; here = subst (λ b. SpellsBody (256 - length os) (closing g.2) b o.next g.3) (sym e) g.4; goes_on = g.5 }

    by_kind : (k : _) → o.kind ≡ k → ArmEnds k o.second (256 - length (o ∷ os)) false more g.0 → (o.kind ≡ opened.First → o.second ≡ done) × Spelled os o.next more final
    by_kind opened.First e a = (λ f. a.0, behind a.1)
    by_kind opened.Block e a = (λ f. absurd (cc), behind a.1)
    by_kind opened.Loop e a = (λ f. absurd (cc), behind a.1)
    by_kind opened.Second e a = (λ f. absurd (cc), behind a.1)
