-- How the typing of a body goes on by one instruction.
use Rattle.std.proofs.Common.{◌≡◌, ℕ, List, [], ◌∷◌, Option, Some, None, refl, ap, ◌∙◌}
use Rattle.std.specs.Prelude.{option_and_then}
use Rattle.wcode.specs.declared.value.ValueType.TheVariants.{I32}
use Rattle.wcode.specs.declared.value.BlockType.{BlockType}
use Rattle.wcode.specs.declared.instruction.Plain.{Plain}
use Rattle.wcode.specs.Syntax.{Body, done, plain, block, loop, if_else, br_table}
use Rattle.wbody.specs.declared.scope.Opened.TheVariants as opened
use Rattle.wbody.specs.Context.{Context, results_of, with_label}
use Rattle.wbody.specs.Typing.{plain_type}
use Rattle.wbody.specs.inside.Pass.{Stack, fresh, taken, pass_type, table_type, closed, pass}
use Rattle.wbody.specs.inside.Standing.{Open, inner_context, finish, resume, outcome}

-- nothing comes of nothing
pub resume_none : (c : Context) (os : List Open) → resume c os None ≡ None
resume_none c [] = refl
resume_none c (o ∷ os) = resume_none c os

pub outcome_plain : (c : Context) (os : List Open) (p : Plain) (rest : Body) (s s' : Stack) → pass_type (plain_type (inner_context c os) p) s ≡ Some s' → outcome c os (plain p rest) s ≡ outcome c os rest s'
outcome_plain c os p rest s s' e = ap (λ o. resume c os (option_and_then (pass (inner_context c os) rest) o)) e

pub outcome_plain_none : (c : Context) (os : List Open) (p : Plain) (rest : Body) (s : Stack) → pass_type (plain_type (inner_context c os) p) s ≡ None → outcome c os (plain p rest) s ≡ None
outcome_plain_none c os p rest s e = ap (λ o. resume c os (option_and_then (pass (inner_context c os) rest) o)) e ∙ resume_none c os

pub outcome_table : (c : Context) (os : List Open) (labels : List ℕ) (default : ℕ) (rest : Body) (s s' : Stack) → pass_type (table_type (inner_context c os) labels default) s ≡ Some s' → outcome c os (br_table labels default rest) s ≡ outcome c os rest s'
outcome_table c os labels default rest s s' e = ap (λ o. resume c os (option_and_then (pass (inner_context c os) rest) o)) e

pub outcome_table_none : (c : Context) (os : List Open) (labels : List ℕ) (default : ℕ) (rest : Body) (s : Stack) → pass_type (table_type (inner_context c os) labels default) s ≡ None → outcome c os (br_table labels default rest) s ≡ None
outcome_table_none c os labels default rest s e = ap (λ o. resume c os (option_and_then (pass (inner_context c os) rest) o)) e ∙ resume_none c os

-- the blocks that an instruction opens
abbrev pub opened_block : BlockType → Stack → (next : Body) → (floor : ℕ) → Open
opened_block t s next floor = record { kind = opened.Block; type = t; below = s; second = done; next = next; floor = floor }

abbrev pub opened_loop : BlockType → Stack → (next : Body) → (floor : ℕ) → Open
opened_loop t s next floor = record { kind = opened.Loop; type = t; below = s; second = done; next = next; floor = floor }

abbrev pub opened_first : BlockType → Stack → (second next : Body) → (floor : ℕ) → Open
opened_first t low second next floor = record { kind = opened.First; type = t; below = low; second = second; next = next; floor = floor }

-- the second arm of an open first one
abbrev pub opened_second : Open → Open
opened_second o = record { kind = opened.Second; type = o.type; below = o.below; second = done; next = o.next; floor = o.floor }

pub outcome_block : (c : Context) (os : List Open) (t : BlockType) (inside next : Body) (s : Stack) (floor : ℕ) → outcome c os (block t inside next) s ≡ outcome c (opened_block t s next floor ∷ os) inside fresh
outcome_block c os t inside next s floor = refl

pub outcome_loop : (c : Context) (os : List Open) (t : BlockType) (inside next : Body) (s : Stack) (floor : ℕ) → outcome c os (loop t inside next) s ≡ outcome c (opened_loop t s next floor ∷ os) inside fresh
outcome_loop c os t inside next s floor = refl

pub outcome_if : (c : Context) (os : List Open) (t : BlockType) (yes_arm no_arm next : Body) (s low : Stack) (floor : ℕ) → taken (I32 ∷ []) s ≡ Some low → outcome c os (if_else t yes_arm no_arm next) s ≡ outcome c (opened_first t low no_arm next floor ∷ os) yes_arm fresh
outcome_if c os t yes_arm no_arm next s low floor e =
    let here = inner_context c os in
    let inner = with_label (results_of t) here in
    let first : opened_first t low no_arm next floor ≡ opened_first t low no_arm next floor = refl in
    ap (λ o. resume c os (option_and_then (pass here next) (option_and_then (λ low. option_and_then (λ arm. option_and_then (closed t low) (pass inner no_arm fresh)) (option_and_then (closed t low) (pass inner yes_arm fresh))) o))) e
    ∙ ap (λ o. resume c os (option_and_then (pass here next) o)) (nested t low (pass inner yes_arm fresh) (λ arm. option_and_then (closed t low) (pass inner no_arm fresh)))
  where
    nested : (t : BlockType) (low : Stack) (o : Option Stack) (f : Stack → Option Stack) → option_and_then f (option_and_then (closed t low) o) ≡ option_and_then (λ inside. option_and_then f (closed t low inside)) o
    nested t low None f = refl
    nested t low (Some x) f = refl

pub outcome_if_none : (c : Context) (os : List Open) (t : BlockType) (yes_arm no_arm next : Body) (s : Stack) → taken (I32 ∷ []) s ≡ None → outcome c os (if_else t yes_arm no_arm next) s ≡ None
outcome_if_none c os t yes_arm no_arm next s e =
    let here = inner_context c os in
    let inner = with_label (results_of t) here in
    ap (λ o. resume c os (option_and_then (pass here next) (option_and_then (λ low. option_and_then (λ arm. option_and_then (closed t low) (pass inner no_arm fresh)) (option_and_then (closed t low) (pass inner yes_arm fresh))) o))) e
    ∙ resume_none c os

-- at an `else`: the first arm leaves its results, and the second is to come
pub outcome_else : (c : Context) (os : List Open) (o : Open) (s s' : Stack) → o.kind ≡ opened.First → closed o.type o.below s ≡ Some s' → outcome c (o ∷ os) done s ≡ outcome c (opened_second o ∷ os) o.second fresh
outcome_else c os o s s' k e =
    let here = inner_context c os in
    ap (λ kind. resume c os (option_and_then (pass here o.next) (finish kind here o.type o.below o.second s))) k
    ∙ ap (λ x. resume c os (option_and_then (pass here o.next) (option_and_then (λ arm. option_and_then (closed o.type o.below) (pass (with_label (results_of o.type) here) o.second fresh)) x))) e

pub outcome_else_none : (c : Context) (os : List Open) (o : Open) (s : Stack) → o.kind ≡ opened.First → closed o.type o.below s ≡ None → outcome c (o ∷ os) done s ≡ None
outcome_else_none c os o s k e =
    let here = inner_context c os in
    ap (λ kind. resume c os (option_and_then (pass here o.next) (finish kind here o.type o.below o.second s))) k
    ∙ ap (λ x. resume c os (option_and_then (pass here o.next) (option_and_then (λ arm. option_and_then (closed o.type o.below) (pass (with_label (results_of o.type) here) o.second fresh)) x))) e
    ∙ resume_none c os

-- at an `end`
pub outcome_end : (c : Context) (os : List Open) (o : Open) (s : Stack) (r : Option Stack) → finish o.kind (inner_context c os) o.type o.below o.second s ≡ r → outcome c (o ∷ os) done s ≡ resume c os (option_and_then (pass (inner_context c os) o.next) r)
outcome_end c os o s r e = ap (λ x. resume c os (option_and_then (pass (inner_context c os) o.next) x)) e

pub outcome_left : (c : Context) (os : List Open) (o : Open) (s s' : Stack) → finish o.kind (inner_context c os) o.type o.below o.second s ≡ Some s' → outcome c (o ∷ os) done s ≡ outcome c os o.next s'
outcome_left c os o s s' e = outcome_end c os o s (Some s') e

pub outcome_left_none : (c : Context) (os : List Open) (o : Open) (s : Stack) → finish o.kind (inner_context c os) o.type o.below o.second s ≡ None → outcome c (o ∷ os) done s ≡ None
outcome_left_none c os o s e = outcome_end c os o s None e ∙ resume_none c os
