-- Expressions and codes at their places.
use Rattle.std.proofs.Common.{◌≡◌, ℕ, ◌<◌, ◌≤◌, List, [], map, length, take, drop, Ok, sym, subst, arith}
use Rattle.std.proofs.Math.ListN.{drop_of_length-le}
use Rattle.std.proofs.lemmas.List.{take-append-drop, length-take-le}
use Rattle.wcode.specs.declared.blocks.Block.{Block}
use Rattle.wcode.specs.Syntax.{Body}
use Rattle.wcode.specs.Grammar.{end, SpellsExpr}
use Rattle.wcode.specs.Blocks.{HasBlocks}
use Rattle.wcode.proofs.BlockLists.{blocks_spell}
use Rattle.wcode.proofs.BodyRead.{body_is}
use Rattle.wmodule.specs.declared.module.Place.{Place}
use Rattle.wmodule.specs.declared.module.FunctionCode.{FunctionCode}
use Rattle.wmodule.specs.Syntax.{expression_in, code_in}
use Rattle.wmodule.specs.Grammar.{Spelling, SpellsBytes, SpellsVector, SpellsRun, SpellsCode}
use Rattle.wmodule.specs.Placed.{StandsAt, IsCode}
use Rattle.wbin.specs.inside.Reading.{Keeps, Reads}
use Rattle.wbin.specs.inside.Codes.{Fills, ReadsCode}
use Rattle.wbin.specs.inside.Kept.{code_kept}
use Rattle.wbin.proofs.CodeContents.{filled}

pub stands_found : (bytes : List ℕ) (at after : ℕ) (blocks : List Block) (body : Body) → at < after → after ≤ length bytes → HasBlocks bytes at body after blocks
    → StandsAt bytes (record { begin = at; end = after }) blocks
stands_found bytes at after blocks body l w h =
    let e : expression_in bytes (record { begin = at; end = after }) ≡ body =
    body_is (drop at bytes) body (drop after bytes) (blocks_spell bytes 256 end (drop at bytes) body (drop after bytes) blocks h) in
    record { some = l; within = w; spelled = subst (λ b. HasBlocks bytes at b after blocks) (sym e) h }

pub stands_spelled : (bytes : List ℕ) (place : Place) (blocks : List Block) → StandsAt bytes place blocks → SpellsExpr (drop place.begin bytes) (expression_in bytes place) (drop place.end bytes)
stands_spelled bytes place blocks h = blocks_spell bytes 256 end (drop place.begin bytes) (expression_in bytes place) (drop place.end bytes) blocks h.spelled

-- locals, and a body that ends with the bytes
pub code_filled : (bytes : List ℕ) (at after : ℕ) (c : FunctionCode) (body : Body) → c.body.end ≡ after → length bytes ≤ after → after ≤ length bytes → c.body.begin < after
    → SpellsVector SpellsRun (drop at bytes) (map (λ r. (r.count, r.value)) c.locals.items) (drop c.body.begin bytes) → HasBlocks bytes c.body.begin body after c.blocks.items
    → Fills (drop at bytes) (code_in bytes c) × IsCode bytes c
code_filled bytes at after c body e l w s v h =
    let k = stands_found bytes c.body.begin after c.blocks.items body s w h in
    let i : IsCode bytes c = subst (λ n. StandsAt bytes (record { begin = c.body.begin; end = n }) c.blocks.items) (sym e) k in
    let z : length bytes ≤ c.body.end = omega (arith, e, l) in
    (filled bytes at c.body.end c.locals.items (expression_in bytes c.body) z (drop c.body.begin bytes, v, stands_spelled bytes c.body c.blocks.items i), i)

-- a code in its size is one in the bytes
pub code_found : (bytes : List ℕ) (at start after : ℕ) (contents : List ℕ) (c : FunctionCode) → SpellsBytes (drop at bytes) contents (drop after bytes) → contents ≡ drop start (take after bytes)
    → ReadsCode (take after bytes) start (Ok c) → SpellsCode (drop at bytes) (code_in bytes c) (drop after bytes) × IsCode bytes c
unfolding ReadsCode
code_found bytes at start after contents c h e r =
    let fence = take after bytes in
    let f = r.0 in
    let k = subst (λ b. IsCode b c × (code_in b c ≡ code_in fence c)) (take-append-drop after bytes) (code_kept fence (drop after bytes) c r.1) in (
      subst (λ x. SpellsCode (drop at bytes) x (drop after bytes)) (sym k.1)
          (contents, f.body, f.runs, h, subst (λ x. SpellsVector SpellsRun x f.runs f.body) (sym e) f.runs_spelled, f.locals_are, f.spelled),
      k.0,
    )

-- a part that fills a section is one in the bytes
pub part_filled : {A B : Type 0} (S : Spelling B) (placed : List ℕ → A → Type 0) (seen : List ℕ → A → B) → Keeps placed seen → (bytes : List ℕ) (start stop after : ℕ) (x : A) → stop ≤ length bytes → after ≡ stop
    → Reads S (seen (take stop bytes)) (take stop bytes) start (Ok (x, after)) → placed (take stop bytes) x → S (drop start (take stop bytes)) (seen bytes x) [] × placed bytes x
unfolding Reads
part_filled S placed seen keeps bytes start stop after x l e r p =
    let fence = take stop bytes in
    let k = subst (λ b. placed b x × (seen b x ≡ seen fence x)) (take-append-drop stop bytes) (keeps fence (drop stop bytes) x p) in
    let n : length fence ≤ after = omega (arith, e, length-take-le stop bytes l) in
    let z = subst (λ t. S (drop start fence) (seen fence x) t) (drop_of_length-le fence n) r.1 in
    (subst (λ y. S (drop start fence) y []) (sym k.1) z, k.0)
