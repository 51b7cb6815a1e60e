-- Where bytes begin with an expression, the function on lists gives its body.
use Rattle.std.proofs.Common.{◌≡◌, ℕ, zero, suc, ◌-◌, ◌<◌, ◌≤◌, inl, inr, Bool, true, false, List, [], ◌∷◌, length, drop, pos, ℤ, refl, ap, sym, ◌∙◌, arith}
use Rattle.std.specs.Int.{cast_unsigned, w32, w64}
use Rattle.leb.specs.Number.{Sign, Spells, unsigned, signed}
use Rattle.leb.proofs.Grammar.{reads}
use Rattle.wcode.specs.declared.value.BlockType.{BlockType}
use Rattle.wcode.specs.declared.value.BlockType.TheVariants as blocks
use Rattle.wcode.specs.declared.value.ValueType.TheVariants.{I32, I64}
use Rattle.wcode.specs.declared.value.Value.TheVariants as values
use Rattle.wcode.specs.declared.instruction.MemArg.{MemArg}
use Rattle.wcode.specs.declared.instruction.Plain.TheVariants as plains
use Rattle.wcode.specs.declared.opcode.Form.{Form}
use Rattle.wcode.specs.declared.opcode.Form.TheVariants as forms
use Rattle.wcode.specs.declared.opcode.Opening.{Opening}
use Rattle.wcode.specs.declared.opcode.Opening.TheVariants as openings
use Rattle.wcode.specs.Opcodes.{form, indexed_plain}
use Rattle.wcode.specs.Syntax.{Body, done, plain, block, loop, if_else, br_table}
use Rattle.wcode.specs.Grammar.{Word, one, opens, otherwise, end, table, SpellsIndex, SpellsIndices, SpellsBlockType, SpellsForm, SpellsWord, SpellsBody, SpellsExpr}
use Rattle.wcode.specs.inside.Ended.{closing}
use Rattle.wcode.specs.BodyAt.{found_in, number_at, natural, index_at, indices_at, mem_arg_at, form_at, word_at, Ending, before, arms_at, item_at, ending_at, body_at}
use Rattle.wcode.proofs.Shorter.{word_shorter, body_shorter}

number_is : (s : Sign) (bits : ℕ) (bytes : List ℕ) (v : ℤ) (rest : List ℕ) → Spells s bits bytes v rest → number_at s bits bytes ≡ (v, rest)
unfolding number_at
number_is s bits bytes v rest h = ap found_in (reads s bits bytes v rest h)

index_is : (bytes : List ℕ) (n : ℕ) (rest : List ℕ) → SpellsIndex bytes n rest → index_at bytes ≡ (n, rest)
unfolding index_at
index_is bytes n rest h = ap (λ (x : ℤ × List ℕ). (natural x.0, x.1)) (number_is unsigned 32 bytes (pos n) rest h)

indices_are : (bytes ns rest : List ℕ) → SpellsIndices bytes ns rest → indices_at (length ns) bytes ≡ (ns, rest)
unfolding indices_at SpellsIndices
indices_are bytes [] rest h = ap (λ (b : List ℕ). ([], b)) h
indices_are bytes (n ∷ ns) rest h =
    ap (λ (x : ℕ × List ℕ). (x.0 ∷ (indices_at (length ns) x.1).0, (indices_at (length ns) x.1).1)) (index_is bytes n h.0 h.1)
    ∙ ap (λ (x : List ℕ × List ℕ). (n ∷ x.0, x.1)) (indices_are h.0 ns rest h.2)

opening_is : (o : Opening) (bytes : List ℕ) (t : BlockType) (rest : List ℕ) → SpellsBlockType bytes t rest → form_at (forms.Opens o) bytes ≡ (opens o t, rest)
unfolding form_at
opening_is o bytes blocks.Empty rest h = ap (λ (b : List ℕ). form_at (forms.Opens o) b) h
opening_is o bytes (blocks.Result I32) rest h = ap (λ (b : List ℕ). form_at (forms.Opens o) b) h
opening_is o bytes (blocks.Result I64) rest h = ap (λ (b : List ℕ). form_at (forms.Opens o) b) h

labels_are : (bytes labels : List ℕ) (default : ℕ) (more last rest : List ℕ) → SpellsIndex bytes (length labels) more → SpellsIndices more labels last → SpellsIndex last default rest
    → form_at forms.BrTable bytes ≡ (table labels default, rest)
unfolding form_at
labels_are bytes labels default more last rest h k l =
    ap (λ (c : ℕ × List ℕ). let ls = indices_at c.0 c.1 in let d = index_at ls.1 in (table ls.0 d.0, d.1)) (index_is bytes (length labels) more h)
    ∙ ap (λ (ls : List ℕ × List ℕ). let d = index_at ls.1 in (table ls.0 d.0, d.1)) (indices_are more labels last k)
    ∙ ap (λ (d : ℕ × List ℕ). (table labels d.0, d.1)) (index_is last default rest l)

mem_arg_is : (bytes : List ℕ) (arg : MemArg) (more rest : List ℕ) → SpellsIndex bytes arg.align more → SpellsIndex more arg.offset rest → mem_arg_at bytes ≡ (arg, rest)
unfolding mem_arg_at
mem_arg_is bytes arg more rest h k =
    ap (λ (a : ℕ × List ℕ). let o = index_at a.1 in let m : MemArg = record { align = a.0; offset = o.0 } in (m, o.1)) (index_is bytes arg.align more h)
    ∙ ap (λ (o : ℕ × List ℕ). let m : MemArg = record { align = arg.align; offset = o.0 } in (m, o.1)) (index_is more arg.offset rest k)

form_is : (f : Form) (bytes : List ℕ) (w : Word) (rest : List ℕ) → SpellsForm f bytes w rest → form_at f bytes ≡ (w, rest)
unfolding form_at
form_is (forms.Plain p) bytes w rest h = ap (λ (b : List ℕ). (one p, b)) h.1 ∙ ap (λ (x : Word). (x, rest)) (sym h.0)
form_is (forms.Opens o) bytes w rest h = opening_is o bytes h.0 rest h.2 ∙ ap (λ (x : Word). (x, rest)) (sym h.1)
form_is forms.Else bytes w rest h = ap (λ (b : List ℕ). (otherwise, b)) h.1 ∙ ap (λ (x : Word). (x, rest)) (sym h.0)
form_is forms.End bytes w rest h = ap (λ (b : List ℕ). (end, b)) h.1 ∙ ap (λ (x : Word). (x, rest)) (sym h.0)
form_is (forms.Indexed i) bytes w rest h =
    ap (λ (x : ℕ × List ℕ). (one (indexed_plain i x.0), x.1)) (index_is bytes h.0 rest h.2) ∙ ap (λ (x : Word). (x, rest)) (sym h.1)
form_is forms.BrTable bytes w rest h = let k = h.3 in labels_are bytes h.0 h.1 k.0 k.1 rest k.2 k.3 k.4 ∙ ap (λ (x : Word). (x, rest)) (sym h.2)
form_is forms.CallIndirect bytes w rest h =
    ap (λ (x : ℕ × List ℕ). (one (plains.CallIndirect x.0), drop 1 x.1)) (index_is bytes h.0 (0 ∷ rest) h.2) ∙ ap (λ (x : Word). (x, rest)) (sym h.1)
form_is (forms.Load o) bytes w rest h =
    let k = h.2 in ap (λ (x : MemArg × List ℕ). (one (plains.Load o x.0), x.1)) (mem_arg_is bytes h.0 k.0 rest k.1 k.2) ∙ ap (λ (x : Word). (x, rest)) (sym h.1)
form_is (forms.Store o) bytes w rest h =
    let k = h.2 in ap (λ (x : MemArg × List ℕ). (one (plains.Store o x.0), x.1)) (mem_arg_is bytes h.0 k.0 rest k.1 k.2) ∙ ap (λ (x : Word). (x, rest)) (sym h.1)
form_is (forms.ZeroByte p) bytes w rest h = ap (λ (b : List ℕ). (one p, drop 1 b)) h.1 ∙ ap (λ (x : Word). (x, rest)) (sym h.0)
form_is (forms.Const I32) bytes w rest h =
    ap (λ (x : ℤ × List ℕ). (one (plains.Const (values.I32 (cast_unsigned w32 x.0))), x.1)) (number_is signed 32 bytes h.2.0 rest h.2.2)
    ∙ ap (λ (n : ℕ). (one (plains.Const (values.I32 n)), rest)) (sym h.2.1) ∙ ap (λ (x : Word). (x, rest)) (sym h.1)
form_is (forms.Const I64) bytes w rest h =
    ap (λ (x : ℤ × List ℕ). (one (plains.Const (values.I64 (cast_unsigned w64 x.0))), x.1)) (number_is signed 64 bytes h.2.0 rest h.2.2)
    ∙ ap (λ (n : ℕ). (one (plains.Const (values.I64 n)), rest)) (sym h.2.1) ∙ ap (λ (x : Word). (x, rest)) (sym h.1)
form_is forms.Float bytes w rest h = absurd h
form_is forms.Bad bytes w rest h = absurd h

word_is : (bytes : List ℕ) (w : Word) (rest : List ℕ) → SpellsWord bytes w rest → word_at bytes ≡ (w, rest)
unfolding word_at SpellsWord
word_is [] w rest h = absurd h
word_is (b ∷ bytes) w rest h = form_is (form b) bytes w rest h

abbrev ended : Body → Bool → List ℕ → Ending
ended body e rest = record { body = body; by_else = e; rest = rest }

step_is : (n : ℕ) (bytes : List ℕ) (w : Word) (rest : List ℕ) → SpellsWord bytes w rest → ending_at (suc n) bytes ≡ item_at (ending_at n) w rest
unfolding ending_at
step_is n bytes w rest h = ap (λ (x : Word × List ℕ). item_at (ending_at n) x.0 x.1) (word_is bytes w rest h)

closing_item : (n : ℕ) (e : Bool) (rest : List ℕ) → item_at (ending_at n) (closing e) rest ≡ ended done e rest
unfolding item_at
closing_item n true rest = refl
closing_item n false rest = refl

arms_else : (next : List ℕ → Ending) (t : BlockType) (a b : Body) (middle after : List ℕ) → next middle ≡ ended b false after → arms_at next t (ended a true middle) ≡ before (if_else t a b) (next after)
unfolding arms_at
arms_else next t a b middle after h = ap (λ (s : Ending). before (if_else t a s.body) (next s.rest)) h

arms_end : (next : List ℕ → Ending) (t : BlockType) (a : Body) (after : List ℕ) → arms_at next t (ended a false after) ≡ before (if_else t a done) (next after)
unfolding arms_at
arms_end next t a after = refl

pub ending_is : (n room : ℕ) (e : Bool) (bytes : List ℕ) (body : Body) (rest : List ℕ) → length bytes ≤ n → SpellsBody room (closing e) bytes body rest → ending_at n bytes ≡ ended body e rest
unfolding SpellsBody item_at
ending_is zero room e bytes body rest l h = absurd (omega (arith, body_shorter room (closing e) bytes body rest h))
ending_is (suc n) room e bytes done rest l h = step_is n bytes (closing e) rest h ∙ closing_item n e rest
ending_is (suc n) room e bytes (plain p next) rest l h =
    let m : length h.0 ≤ n = omega (arith, word_shorter bytes (one p) h.0 h.1) in
    step_is n bytes (one p) h.0 h.1 ∙ ap (before (plain p)) (ending_is n room e h.0 next rest m h.2)
ending_is (suc n) room e bytes (block t inner next) rest l h =
    let m : length h.1 ≤ n = omega (arith, word_shorter bytes (opens openings.Block t) h.1 h.3) in
    let k : length h.2 ≤ n = omega (arith, body_shorter (room - 1) end h.1 inner h.2 h.4) in
    step_is n bytes (opens openings.Block t) h.1 h.3
    ∙ ap (λ (i : Ending). before (block t i.body) (ending_at n i.rest)) (ending_is n (room - 1) false h.1 inner h.2 m h.4)
    ∙ ap (before (block t inner)) (ending_is n room e h.2 next rest k h.5)
ending_is (suc n) room e bytes (loop t inner next) rest l h =
    let m : length h.1 ≤ n = omega (arith, word_shorter bytes (opens openings.Loop t) h.1 h.3) in
    let k : length h.2 ≤ n = omega (arith, body_shorter (room - 1) end h.1 inner h.2 h.4) in
    step_is n bytes (opens openings.Loop t) h.1 h.3
    ∙ ap (λ (i : Ending). before (loop t i.body) (ending_at n i.rest)) (ending_is n (room - 1) false h.1 inner h.2 m h.4)
    ∙ ap (before (loop t inner)) (ending_is n room e h.2 next rest k h.5)
ending_is (suc n) room e bytes (if_else t a b next) rest l h =
    let m : length h.1 ≤ n = omega (arith, word_shorter bytes (opens openings.If t) h.1 h.3) in
    let next_is : length h.2 < length h.1 → ending_at n h.2 ≡ ended next e rest = (λ s. ending_is n room e h.2 next rest (omega arith) h.5) in
    step_is n bytes (opens openings.If t) h.1 h.3
    ∙ elim h.4 [
      | inl x ↦ (
          let s = body_shorter (room - 1) end h.1 a h.2 x.1 in
          ap (arms_at (ending_at n) t) (ending_is n (room - 1) false h.1 a h.2 m x.1) ∙ arms_end (ending_at n) t a h.2
          ∙ ap (λ (c : Body). before (if_else t a c) (ending_at n h.2)) (sym x.0) ∙ ap (before (if_else t a b)) (next_is s))
      | inr x ↦ (
          let s = body_shorter (room - 1) otherwise h.1 a x.0 x.1 in
          let z = body_shorter (room - 1) end x.0 b h.2 x.2 in
          let k : length x.0 ≤ n = omega arith in
          let y : length h.2 < length h.1 = omega arith in
          ap (arms_at (ending_at n) t) (ending_is n (room - 1) true h.1 a x.0 m x.1)
          ∙ arms_else (ending_at n) t a b x.0 h.2 (ending_is n (room - 1) false x.0 b h.2 k x.2) ∙ ap (before (if_else t a b)) (next_is y))
    ]
ending_is (suc n) room e bytes (br_table labels default next) rest l h =
    let m : length h.0 ≤ n = omega (arith, word_shorter bytes (table labels default) h.0 h.1) in
    step_is n bytes (table labels default) h.0 h.1 ∙ ap (before (br_table labels default)) (ending_is n room e h.0 next rest m h.2)

pub body_is : (bytes : List ℕ) (body : Body) (rest : List ℕ) → SpellsExpr bytes body rest → body_at bytes ≡ body
unfolding body_at
body_is bytes body rest h = ap (λ (e : Ending). e.body) (ending_is (length bytes) 256 false bytes body rest (omega arith) h)
