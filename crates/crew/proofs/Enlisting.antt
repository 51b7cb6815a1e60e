-- Workers that are enlisted, one after the other.
use Rattle.std.proofs.Common.{◌≡◌, ℕ, zero, suc, ◌+◌, ◌<◌, ◌≤◌, false, List, [], ◌∷◌, ◌++◌, length, slice_index_or, refl, sym, ap, subst, ◌∙◌, arith, length-append}
use Rattle.desk.specs.Shared.{Pass, Desk}
use Rattle.crew.specs.declared.worker.Worker.{Worker}
use Rattle.crew.specs.Made.{newcomer}
use Rattle.crew.specs.Crew.{ArePassesOf, enlisted}
use Rattle.crew.proofs.Answering.{enlisted_more}

module _ {J T : Type 0} where
  -- the worker at a place has a pass that has made no call, with the number of that place
  pub enlisted_at : (n : ℕ) (tools : List T) (i : ℕ) (d : Worker J T) (t : T) → i < length tools → slice_index_or (enlisted n tools) i d ≡ record { pass = newcomer (n + i); tool = slice_index_or tools i t; failed = false }
  enlisted_at n [] i d t lt = absurd (omega arith)
  enlisted_at n (x ∷ tools) zero d t lt = ap (λ (k : ℕ). record { pass = newcomer k; tool = x; failed = false }) (omega arith)
  enlisted_at n (x ∷ tools) (suc i) d t lt = enlisted_at (n + 1) tools i d t (omega arith) ∙ ap (λ (k : ℕ). record { pass = newcomer k; tool = slice_index_or tools i t; failed = false }) (omega arith)

pub enlisted_length : (J : Type 0) {T : Type 0} (n : ℕ) (tools : List T) → length (enlisted {J = J} n tools) ≡ length tools
enlisted_length J n [] = refl
enlisted_length J n (x ∷ tools) = ap suc (enlisted_length J (n + 1) tools)

-- one worker more
pub one_more_enlisted : {J T : Type 0} (n : ℕ) (tools : List T) (tool : T) (ws : List (Worker J T)) (p : Pass) (k : ℕ) → ws ≡ enlisted n tools → p ≡ newcomer k → k ≡ n + length tools
    → ws ++ record { pass = p; tool = tool; failed = false } ∷ [] ≡ enlisted n (tools ++ tool ∷ [])
one_more_enlisted {J} {T} n tools tool ws p k so_far new number =
    ap (λ (l : List (Worker J T)). l ++ record { pass = p; tool = tool; failed = false } ∷ []) so_far
    ∙ ap (λ (q : Pass). enlisted n tools ++ record { pass = q; tool = tool; failed = false } ∷ []) (new ∙ ap newcomer number) ∙ sym (enlisted_more n tools tool)

-- and the desk handed out one pass more
pub one_more_handed : {T : Type 0} (old d d' : Desk) (tools : List T) (tool : T) → d ≡ record old { handed = old.handed + length tools } → d' ≡ record d { handed = d.handed + 1 }
    → d' ≡ record old { handed = old.handed + length (tools ++ tool ∷ []) }
one_more_handed old d d' tools tool so_far more =
    more ∙ ap (λ (x : Desk). record x { handed = x.handed + 1 }) so_far ∙ ap (λ (k : ℕ). record old { handed = k }) (omega (arith, length-append tools (tool ∷ [])))

-- their passes are of a desk that has handed out as many
pub enlisted_passes : {J T : Type 0} (desk : Desk) (n : ℕ) (tools : List T) (ws : List (Worker J T)) → ws ≡ enlisted n tools → n + length tools ≤ desk.handed → ArePassesOf desk ws
enlisted_passes {J} {T} desk n tools ws is le i d lt =
    let lt' : i < length tools = subst (λ k. i < k) (ap length is ∙ enlisted_length J n tools) lt in
    subst (λ (w : Worker J T). w.pass.caller.number < desk.handed) (sym (ap (λ (l : List (Worker J T)). slice_index_or l i d) is ∙ enlisted_at n tools i d d.tool lt')) (omega arith)

-- there are as many of them as there are tools
pub some_enlisted : {J T : Type 0} (n : ℕ) (tools : List T) (ws : List (Worker J T)) → ws ≡ enlisted n tools → 0 < length tools → 0 < length ws
some_enlisted {J} {T} n tools ws is some = omega (arith, ap length is, enlisted_length J n tools)
