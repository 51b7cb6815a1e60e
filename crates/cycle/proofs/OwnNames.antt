-- The nodes that a desk shows have names of their own, whatever steps came before.
use Rattle.std.proofs.Common.{◌≡◌, ℕ, zero, suc, ◌<◌, Bool, true, false, if◌then◌else◌, List, [], ◌∷◌, map, length, get_or, Option, None, Some, unwrap_or, ◌⊎◌, inl, inr, refl, sym, ap, subst, ◌∙◌, arith}
use Rattle.std.specs.declared.cmp.Ordering.TheVariants.{Less}
use Rattle.std.specs.List.{AllByRecursion}
use Rattle.std.specs.Str.{bytes_eq}
use Rattle.std.specs.Cmp.{tied_itself}
use Rattle.std.specs.Cmp.Lexicographic.{nat_list_cmp_total, bytes_decides}
use Rattle.std.specs.FinMap as fin
use Rattle.std.proofs.lemmas.Bool.{cases_lt}
use Rattle.std.proofs.lemmas.List.{length-map}
use Rattle.quant.specs.declared.event.Event.TheVariants.{NodeSet, NodeGone}
use Rattle.quant.specs.declared.name.Name.{Name}
use Rattle.quant.specs.declared.objects.Node.{Node}
use Rattle.book.specs.declared.limits.Limits.{Limits}
use Rattle.book.specs.Cluster.{name_cmp, Cluster, Nodes, Places}
use Rattle.book.specs.Rows.{named, named_row}
use Rattle.book.proofs.Put.{earlier_less}
use Rattle.book.proofs.RowLemmas.{true_of}
use Rattle.desk.specs.declared.step.Step.{Step}
use Rattle.desk.specs.declared.step.Step.TheVariants.{Event}
use Rattle.desk.specs.Machine.{State, opening, step, after, snapshot}
use Rattle.desk.specs.History.{is_accepted, row_in}
use Rattle.desk.proofs.Calm.{each_found}
use Rattle.desk.proofs.Rows.{shown_of, shown_all}
use Rattle.desk.proofs.Steps.{one_of}
use Rattle.desk.specs.Order.{name_at}
use Rattle.choose.specs.Laws.{HaveOwnNames}

-- each node stands under its own name
pub record StandByName (nodes : Nodes) : Type 0 where
  pub named : (q : Name) (row : Node) → fin.get nodes q ≡ Some row → row.name ≡ q

-- ---- it is kept

-- what is said under a name is said of this one
own_name : (b : Bool) (named q : Name) (node row : Node) → bytes_eq named q ≡ b → (if b then Some (Some node) else None) ≡ Some (Some row) → (named ≡ q) × (node ≡ row)
own_name true named q node row is e = ((bytes_decides named q).0 is, cc)
own_name false named q node row is e = absurd (cc)

-- what says that a node is gone sets no row
never_both : (b : Bool) (row : Node) → (if b then Some None else None) ≡ Some (Some row) → ⊥
never_both true row e = cc
never_both false row e = cc

-- a row that a step sets is under its own name
row_named : (q : Name) (e : Step) (row : Node) → row_in q e ≡ Some (Some row) → row.name ≡ q
row_named q (Event (NodeSet version node)) row is =
    let own = own_name (bytes_eq node.name q) node.name q node row refl is in
    ap (λ (n : Node). n.name) (sym own.1) ∙ own.0
row_named q (Event (NodeGone version name)) row is = absurd (never_both (bytes_eq name q) row is)
row_named q _ row is = absurd (cc)

-- what is there after a step was said by it, or was there before
said_or_there : (taken : Bool) (said : Option (Option Node)) (there : Option Node) (row : Node) → unwrap_or (if taken then said else None) there ≡ Some row → (said ≡ Some (Some row)) ⊎ (there ≡ Some row)
said_or_there true None there row e = inr e
said_or_there true (Some o) there row e = inl (ap (λ p. Some p) e)
said_or_there false said there row e = inr e

-- each step keeps it
pub kept : (s : State) (pass : ℕ) (e : Step) → StandByName s.cluster.nodes → StandByName (after s pass e).cluster.nodes
kept s pass e own = record { named = λ q row is. by q row (said_or_there (is_accepted (step s pass e).reply) (row_in q e) (fin.get s.cluster.nodes q) row (sym (one_of s q pass e).node ∙ is)) }
  where
    by : (q : Name) (row : Node) → (row_in q e ≡ Some (Some row)) ⊎ (fin.get s.cluster.nodes q ≡ Some row) → row.name ≡ q
    by q row (inl said) = row_named q e row said
    by q row (inr there) = own.named q row there

-- and it holds before any step
pub at_opening : (limits : Limits) → StandByName (opening limits).cluster.nodes
at_opening limits = record { named = λ q row is. none q row (sym (fin.get-empty name_cmp q) ∙ is) }
  where
    none : (q : Name) (row : Node) → None ≡ Some row → row.name ≡ q
    none q row e = absurd (cc)

-- ---- what is shown

-- entries that stand under the names of their nodes are these nodes, named
rows_of_entries : (es : List (Name × Node)) → AllByRecursion (λ (x : Name × Node). x.1.name ≡ x.0) (map (λ x. x) es) → named (map (λ e. e.1) es) ≡ es
rows_of_entries [] all = refl
rows_of_entries (e ∷ es) all = λ i. (all.0 i, e.1) ∷ rows_of_entries es all.1 i

-- so the map's nodes, named, are its entries
own_rows : (nodes : Nodes) → StandByName nodes → named (fin.values nodes) ≡ fin.entries nodes
own_rows nodes own =
    rows_of_entries (fin.entries nodes)
    (each_found (λ (x : Name × Node). x.1.name ≡ x.0) (λ x. x) (fin.entries nodes) (true_of _ (fin.entries_sorted nodes)) (λ x is. own.named x.0 x.1 (fin.get-entries nodes x.0 ∙ is)))

-- a shown node has its row's name
shown_name : (places : Places) (rows : List Node) (k : ℕ) (d : Node) → k < length rows → name_at (map (shown_of places) rows) k ≡ (get_or rows k d).name
shown_name places [] k d below = absurd (omega (arith, below))
shown_name places (row ∷ rows) zero d below = refl
shown_name places (row ∷ rows) (suc k) d below = shown_name places rows k d (omega (arith, below))

module _ (rows : List Node) (sorted : fin.is_sorted name_cmp (named rows) ≡ true) where
  -- an earlier name isn't a later one
  not_later : (i j : ℕ) (d : Node) → i < j → j < length rows → (get_or rows i d).name ≡ (get_or rows j d).name → ⊥
  not_later i j d before below same =
      let less : name_cmp (get_or rows i d).name (get_or rows j d).name ≡ Less = earlier_less nat_list_cmp_total named_row rows sorted i j d before below in
      let tied = tied_itself nat_list_cmp_total (get_or rows j d).name in
      let less_too : name_cmp (get_or rows j d).name (get_or rows j d).name ≡ Less = subst (λ n. name_cmp n (get_or rows j d).name ≡ Less) same less in
      cc

  -- so rows of one name stand in one place
  one_place : (i j : ℕ) (d : Node) → i < length rows → j < length rows → (get_or rows i d).name ≡ (get_or rows j d).name → i ≡ j
  one_place i j d here there same = elim (cases_lt i j) [
    | inl before ↦ absurd (not_later i j d before there same)
    | inr after ↦ elim (cases_lt j i) [
      | inl before ↦ absurd (not_later j i d before here (sym same))
      | inr also ↦ omega (arith, after, also)
    ]
  ]

  -- and what is shown of them has names of its own
  own_names : (places : Places) → HaveOwnNames (map (shown_of places) rows)
  own_names places i j here there same =
      let here' : i < length rows = subst (λ n. i < n) (length-map rows (shown_of places)) here in
      let there' : j < length rows = subst (λ n. j < n) (length-map rows (shown_of places)) there in
      by rows refl here' there'
    where
      by : (all : List Node) → all ≡ rows → i < length rows → j < length rows → i ≡ j
      by [] e here there = absurd (let none : length rows ≡ 0 = ap length (sym e) in omega (arith, none, here))
      by (d ∷ all) e here there = one_place i j d here there (sym (shown_name places rows i d here) ∙ (same ∙ shown_name places rows j d there))

-- the nodes of a snapshot have names of their own
pub shown_apart : (c : Cluster) → StandByName c.nodes → HaveOwnNames (snapshot c)
shown_apart c own =
    let rows : named (fin.values c.nodes) ≡ fin.entries c.nodes = own_rows c.nodes own in
    subst HaveOwnNames (shown_all (fin.values c.nodes) c.nodes c.places rows)
    (own_names (fin.values c.nodes) (subst (λ es. fin.is_sorted name_cmp es ≡ true) (sym rows) (true_of _ (fin.entries_sorted c.nodes))) c.places)
