-- What is kept of what nodes are worth stays so where one of them changes.
use Rattle.std.proofs.Common.{◌≡◌, ℕ, ◌+◌, ◌<◌, true, List, [], ◌∷◌, ◌++◌, get_or, set, length, map, take, sym, ap, subst, ◌∙◌, arith}
use Rattle.std.specs.List.{AllWithin}
use Rattle.std.proofs.lemmas.List.{length-map, map-set, map_push, take_more, get_or-map, get_or-set_same}
use Rattle.std.proofs.lemmas.List.Elements.{All-set, AllWithin-more}
use Rattle.quant.specs.declared.amount.Request.{Request}
use Rattle.desk.specs.declared.class.Class.{Class}
use Rattle.desk.specs.declared.snapshot.Row.{Row}
use Rattle.desk.specs.Plain.{is_plain}
use Rattle.desk.specs.Shown.{Shown, shown}
use Rattle.desk.specs.Worth.{ArePlain, worth}
use Rattle.desk.specs.inside.Kept.{AreKept, IsClass}

-- one node changes, and stays as plain as it was
pub plain_still : (nodes : List Shown) (at : ℕ) (s : Shown) → at < length nodes → s.node ≡ (get_or nodes at s).node → ArePlain nodes → ArePlain (set nodes at s)
plain_still nodes at s lt same plain = All-set (λ (t : Shown). is_plain t.node ≡ true) nodes at s (ap is_plain same ∙ plain at s lt) plain

-- what is kept for a request, where one node is judged again
pub class_still : (nodes : List Shown) (at : ℕ) (s : Shown) (old new : Class) → at < length nodes → s.node ≡ (get_or nodes at s).node → new.request ≡ old.request → new.all_plain ≡ old.all_plain
    → new.worths.items ≡ set old.worths.items at (worth old.request s) → IsClass nodes old → IsClass (set nodes at s) new
class_still nodes at s old new lt same request all_plain worths is = record {
  worths =
      worths ∙ ap (λ (w : List ℕ). set w at (worth old.request s)) is.worths
      ∙ sym (map-set (worth old.request) nodes at s)
      ∙ ap (λ (r : Request). map (worth r) (set nodes at s)) (sym request);
  plain = λ (e : new.all_plain ≡ true). plain_still nodes at s lt same (is.plain (sym all_plain ∙ e));
}

-- what is kept of rows, of which one changes, but not its node, and is then judged again
pub kept_written : (rows : List Row) (at : ℕ) (row new d : Row) (old now : List Class) → at < length rows → row ≡ get_or rows at row → new.node ≡ row.node
    → ((nodes : List Shown) → at < length nodes → (get_or (set rows at new) at d).node ≡ (get_or nodes at (shown (get_or (set rows at new) at d))).node → AreKept nodes old → AreKept (set nodes at (shown (get_or (set rows at new) at d))) now)
    → AreKept (map shown rows) old → AreKept (map shown (set rows at new)) now
kept_written rows at row new d old now lt is same renewed kept =
    let again = get_or (set rows at new) at d in
    let there : at < length (map shown rows) = omega (arith, lt, length-map rows shown) in
    let written : again ≡ new = get_or-set_same rows at new d lt in
    let stays : again.node ≡ (get_or (map shown rows) at (shown again)).node =
    ap (λ (r : Row). r.node) written ∙ same ∙ ap (λ (r : Row). r.node) is ∙ ap (λ (s : Shown). s.node) (sym (get_or-map shown rows at row (shown again) lt)) in
    subst (λ (nodes : List Shown). AreKept nodes now) (ap (λ (r : Row). set (map shown rows) at (shown r)) written ∙ sym (map-set shown rows at new)) (renewed (map shown rows) there stays kept)

-- one row more is judged
pub worths_more : (request : Request) (rows : List Row) (i : ℕ) (row : Row) → i < length rows → row ≡ get_or rows i row → (worths more : List ℕ) (w : ℕ) → worths ≡ map (worth request) (map shown (take i rows))
    → w ≡ worth request (shown row) → more ≡ worths ++ w ∷ [] → more ≡ map (worth request) (map shown (take (i + 1) rows))
worths_more request rows i row lt is worths more w before value pushed =
    pushed ∙ (λ k. before k ++ value k ∷ [])
    ∙ ap (λ (r : Row). map (worth request) (map shown (take i rows)) ++ worth request (shown r) ∷ []) is
    ∙ sym (map_push (worth request) (map shown (take i rows)) (shown (get_or rows i row)))
    ∙ ap (map (worth request)) (sym (map_push shown (take i rows) (get_or rows i row)))
    ∙ ap (λ (l : List Row). map (worth request) (map shown l)) (sym (take_more rows i row lt))

-- and seen to be plain
pub plain_more : (rows : List Row) (i : ℕ) (row : Row) → i < length rows → row ≡ get_or rows i row → AllWithin (λ (s : Shown). is_plain s.node ≡ true) (map shown rows) 0 i → is_plain row.node ≡ true
    → AllWithin (λ (s : Shown). is_plain s.node ≡ true) (map shown rows) 0 (i + 1)
plain_more rows i row lt is before plain =
    AllWithin-more (λ (s : Shown). is_plain s.node ≡ true) (map shown rows) 0 i before
    (λ d. ap (λ (s : Shown). is_plain s.node) (get_or-map shown rows i row d lt) ∙ ap (λ (r : Row). is_plain r.node) (sym is) ∙ plain)
