-- The contents of a function's body.
use Rattle.std.proofs.Common.{◌≡◌, ℕ, ◌<◌, ◌≤◌, List, [], ◌∷◌, ◌++◌, map, length, drop, replicate, refl, ap, sym, subst, ◌∙◌, arith, length-drop}
use Rattle.std.proofs.Math.ListN.{drop_of_length-le}
use Rattle.wcode.specs.declared.value.ValueType.{ValueType}
use Rattle.wcode.specs.Syntax.{Body}
use Rattle.wcode.specs.Grammar.{SpellsExpr}
use Rattle.wmodule.specs.declared.module.LocalRun.{LocalRun}
use Rattle.wmodule.specs.Syntax.{Code, locals_of}
use Rattle.wmodule.specs.Grammar.{SpellsVector, SpellsBytes, SpellsRun, run_locals, SpellsCode}
use Rattle.wbin.specs.inside.Reading.{Nothing, Once, SpellsBoth}
use Rattle.wbin.specs.inside.Codes.{Fills}
use Rattle.wbin.specs.inside.Unique.{bytes_once, both_once, vector_once, run_once, expression_once}

pub locals_are_runs : (rs : List LocalRun) → locals_of rs ≡ run_locals (map (λ r. (r.count, r.value)) rs)
locals_are_runs [] = refl
locals_are_runs (r ∷ rs) = ap (λ l. replicate r.count r.value ++ l) (locals_are_runs rs)

abbrev pub SpellsContents : List ℕ → List (ℕ × ValueType) × Body → List ℕ → Type 0
SpellsContents = SpellsBoth (SpellsVector SpellsRun) SpellsExpr

contents_once : Once SpellsContents
contents_once = both_once (SpellsVector SpellsRun) SpellsExpr (vector_once SpellsRun run_once) expression_once

pub filled : (bytes : List ℕ) (at end : ℕ) (rs : List LocalRun) (body : Body) → length bytes ≤ end → SpellsContents (drop at bytes) (map (λ r. (r.count, r.value)) rs, body) (drop end bytes)
    → Fills (drop at bytes) (record { locals = locals_of rs; body = body })
filled bytes at end rs body l h = record {
  body = h.0;
  runs = map (λ r. (r.count, r.value)) rs;
  runs_spelled = h.1;
  locals_are = locals_are_runs rs;
  spelled = subst (λ x. SpellsExpr h.0 body x) (drop_of_length-le bytes l) h.2;
}

pub not_filled : (bytes : List ℕ) (at end : ℕ) (x : List (ℕ × ValueType) × Body) → end < length bytes → SpellsContents (drop at bytes) x (drop end bytes) → (code : Code) → Fills (drop at bytes) code → ⊥
not_filled bytes at end x l h code f =
    let p = contents_once (drop at bytes) x (f.runs, code.body) (drop end bytes) [] h (f.body, f.runs_spelled, f.spelled) in
    let e : length (drop end bytes) ≡ 0 = ap length p.1 in
    omega (arith, e, length-drop end bytes)

pub code_missing : (bytes contents inside rest : List ℕ) → SpellsBytes bytes contents rest → contents ≡ inside → ((code : Code) → Fills inside code → ⊥) → Nothing SpellsCode bytes
code_missing bytes contents inside rest h e none code more s =
    let p = bytes_once bytes contents s.0 rest more h s.3 in
    none code (record {
      body = s.1;
      runs = s.2;
      runs_spelled = subst (λ c. SpellsVector SpellsRun c s.2 s.1) (sym p.0 ∙ e) s.4;
      locals_are = s.5;
      spelled = s.6;
    })

-- no code where the locals are and no body is
pub body_missing : (bytes : List ℕ) (at begin : ℕ) (runs : List (ℕ × ValueType)) → SpellsVector SpellsRun (drop at bytes) runs (drop begin bytes)
    → ((body : Body) (rest : List ℕ) → SpellsExpr (drop begin bytes) body rest → ⊥) → (code : Code) → Fills (drop at bytes) code → ⊥
body_missing bytes at begin runs h none code f =
    let p = vector_once SpellsRun run_once (drop at bytes) runs f.runs (drop begin bytes) f.body h f.runs_spelled in
    none code.body [] (subst (λ b. SpellsExpr b code.body []) (sym p.1) f.spelled)
