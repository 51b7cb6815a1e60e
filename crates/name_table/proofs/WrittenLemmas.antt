-- What lists of which what was never written takes no memory are after a write.
use Rattle.std.proofs.Common.{◌≡◌, ℕ, zero, suc, ◌+◌, ◌-◌, ◌*◌, ◌/◌, ◌%◌, ◌<◌, ◌≤◌, cond, List, [], ◌++◌, length, get_or, set, take, replicate, nat_lt, count_by, refl, sym, ap, subst, ◌∙◌, inl, inr, arith, get_or-set_same, get_or-set_other}
use Rattle.std.proofs.lemmas.List.{length-set, length-append, length-replicate, take_all, ext_get_or, get_or_append_left, get_or-append_right, get_or-replicate, get_or_past}
use Rattle.std.proofs.lemmas.List.FromFn.{length-range_with_len, get_or-range_with_len, length-map-range_with_len, get_or-map-range_with_len}
use Rattle.std.proofs.lemmas.List.Sums.{sum_by-set, count_by-le-length}
use Rattle.std.proofs.lemmas.Bool.{cases_lt, cases_eq, lt-ltb}
use Rattle.std.specs.List.{range_with_len}
use Rattle.name_table.specs.declared.links.Link.{Link}
use Rattle.name_table.specs.inside.Written.{listed, Hung, first_link, link_at, hung, unwritten, spot, head_at, AreBlocks}

-- as many as are listed
pub length_listed : (f : ℕ → ℕ) (n : ℕ) → length (listed f n) ≡ n
length_listed f n = length-map-range_with_len f 0 n

-- each from its place
pub listed_at : (f : ℕ → ℕ) (n i : ℕ) → i < n → get_or (listed f n) i 0 ≡ f i
listed_at f n i lt = get_or-map-range_with_len f 0 n i i 0 lt (omega arith)

-- numbers that are listed are these where each is
pub listed_as : (f : ℕ → ℕ) (n : ℕ) (xs : List ℕ) → length xs ≡ n → ((k : ℕ) → k < n → f k ≡ get_or xs k 0) → listed f n ≡ xs
listed_as f n xs many each =
    ext_get_or 0 (listed f n) xs (length_listed f n ∙ sym many)
    (λ k k_lt. let lt : k < n = omega (arith, length_listed f n) in listed_at f n k lt ∙ each k lt)

-- and other numbers where each of them is
listed_same : (f g : ℕ → ℕ) (n : ℕ) → ((k : ℕ) → k < n → f k ≡ g k) → listed f n ≡ listed g n
listed_same f g n each = listed_as f n (listed g n) (length_listed g n) (λ k lt. each k lt ∙ sym (listed_at g n k lt))

-- another number at one place
listed_set : (f g : ℕ → ℕ) (n i v : ℕ) → i < n → f i ≡ v → ((k : ℕ) → k < n → (k ≡ i → ⊥) → f k ≡ g k) → listed f n ≡ set (listed g n) i v
listed_set f g n i v lt here others =
    let many : length (set (listed g n) i v) ≡ n = length-set (listed g n) i v ∙ length_listed g n in
    listed_as f n (set (listed g n) i v) many
    (λ k k_lt. elim (cases_eq k i) [
      | inl e ↦ ap f e ∙ here ∙ sym (ap (λ j. get_or (set (listed g n) i v) j 0) e ∙ get_or-set_same (listed g n) i v 0 (omega (arith, length_listed g n)))
      | inr ne ↦ others k k_lt ne ∙ sym (get_or-set_other (listed g n) i k v 0 ne ∙ listed_at g n k k_lt)
    ])

-- as many as there are
pub listed_many : (f : ℕ → ℕ) (n : ℕ) (xs : List ℕ) → listed f n ≡ xs → n ≡ length xs
listed_many f n xs same = sym (length_listed f n) ∙ ap length same

-- each of them
pub listed_read : (f : ℕ → ℕ) (n : ℕ) (xs : List ℕ) (i : ℕ) → listed f n ≡ xs → i < length xs → f i ≡ get_or xs i 0
listed_read f n xs i same lt =
    let many = listed_many f n xs same in sym (listed_at f n i (omega arith)) ∙ ap (λ ys. get_or ys i 0) same

module _ (free : ℕ) where
  -- the links of slots that never moved
  pub hung_new : (room : ℕ) → hung [] room free ≡ record { nexts = range_with_len 1 room; homes = replicate room free }
  hung_new room =
      let nexts : listed (λ k. k + 1) room ≡ range_with_len 1 room =
      listed_as (λ k. k + 1) room (range_with_len 1 room) (length-range_with_len 1 room) (λ k lt. let at : get_or (range_with_len 1 room) k 0 ≡ 1 + k = get_or-range_with_len 1 room k 0 lt in omega arith) in
      let homes : listed (λ k. free) room ≡ replicate room free =
      listed_as (λ k. free) room (replicate room free) (length-replicate room free) (λ k lt. sym (get_or-replicate room k free 0 lt)) in
      λ t. record { nexts = nexts t; homes = homes t }

  module _ (w : List Link) (room : ℕ) (now : Hung) (same : hung w room free ≡ now) where
    -- as many slots as there is room for
    pub next_many : room ≡ length now.nexts
    next_many = listed_many (λ k. (link_at w free k).next) room now.nexts (ap (λ (h : Hung). h.nexts) same)

    pub home_many : room ≡ length now.homes
    home_many = listed_many (λ k. (link_at w free k).home) room now.homes (ap (λ (h : Hung). h.homes) same)

    -- what the link of one has
    pub next_read : (s : ℕ) → s < length now.nexts → (link_at w free s).next ≡ get_or now.nexts s 0
    next_read s lt = listed_read (λ k. (link_at w free k).next) room now.nexts s (ap (λ (h : Hung). h.nexts) same) lt

    pub home_read : (s : ℕ) → s < length now.homes → (link_at w free s).home ≡ get_or now.homes s 0
    home_read s lt = listed_read (λ k. (link_at w free k).home) room now.homes s (ap (λ (h : Hung). h.homes) same) lt

    module _ (s : ℕ) (v : List Link) (l : Link) (lt : s < length v) (kept : (k : ℕ) → link_at v free k ≡ link_at w free k) where
      -- after a write the others have what they had
      link_other : (k : ℕ) → (k ≡ s → ⊥) → link_at (set v s l) free k ≡ link_at w free k
      link_other k ne = get_or-set_other v s k l (first_link free k) ne ∙ kept k

      -- the slot has what was written
      link_here : link_at (set v s l) free s ≡ l
      link_here = get_or-set_same v s l (first_link free s) lt

      written_set : (f : Link → ℕ) → s < room → listed (λ k. f (link_at (set v s l) free k)) room ≡ set (listed (λ k. f (link_at w free k)) room) s (f l)
      written_set f within =
          listed_set (λ k. f (link_at (set v s l) free k)) (λ k. f (link_at w free k)) room s (f l) within (ap f link_here) (λ k k_lt ne. ap f (link_other k ne))

      -- and is as before where that is
      written_same : (f : Link → ℕ) → f l ≡ f (link_at v free s) → listed (λ k. f (link_at (set v s l) free k)) room ≡ listed (λ k. f (link_at w free k)) room
      written_same f as_before =
          listed_same (λ k. f (link_at (set v s l) free k)) (λ k. f (link_at w free k)) room
          (λ k k_lt. elim (cases_eq k s) [
            | inl e ↦ ap (λ j. f (link_at (set v s l) free j)) e ∙ ap f link_here ∙ as_before ∙ ap f (kept s) ∙ ap (λ j. f (link_at w free j)) (sym e)
            | inr ne ↦ ap f (link_other k ne)
          ])

      -- a whole link is written
      pub link_set : s < room → hung (set v s l) room free ≡ record { nexts = set now.nexts s l.next; homes = set now.homes s l.home }
      link_set within =
          let nexts = written_set (λ p. p.next) within in
          let homes = written_set (λ p. p.home) within in
          let first : hung (set v s l) room free ≡ record { nexts = set (hung w room free).nexts s l.next; homes = set (hung w room free).homes s l.home } = λ t. record { nexts = nexts t; homes = homes t } in
          first ∙ ap (λ (h : Hung). let made : Hung = record { nexts = set h.nexts s l.next; homes = set h.homes s l.home } in made) same

      -- another slot comes after one
      pub next_set : s < room → l.home ≡ (link_at v free s).home → hung (set v s l) room free ≡ record now { nexts = set now.nexts s l.next }
      next_set within as_before =
          let nexts = written_set (λ p. p.next) within in
          let homes = written_same (λ p. p.home) as_before in
          let first : hung (set v s l) room free ≡ record (hung w room free) { nexts = set (hung w room free).nexts s l.next } = λ t. record { nexts = nexts t; homes = homes t } in
          first ∙ ap (λ (h : Hung). record h { nexts = set h.nexts s l.next }) same

      -- or it has another chain
      pub home_set : s < room → l.next ≡ (link_at v free s).next → hung (set v s l) room free ≡ record now { homes = set now.homes s l.home }
      home_set within as_before =
          let nexts = written_same (λ p. p.next) as_before in
          let homes = written_set (λ p. p.home) within in
          let first : hung (set v s l) room free ≡ record (hung w room free) { homes = set (hung w room free).homes s l.home } = λ t. record { nexts = nexts t; homes = homes t } in
          first ∙ ap (λ (h : Hung). record h { homes = set h.homes s l.home }) same

-- a list with its default after it has the same everywhere
get_or_more : (xs : List ℕ) (m i d : ℕ) → get_or (xs ++ replicate m d) i d ≡ get_or xs i d
get_or_more xs m i d =
    elim (cases_lt i (length xs)) [
      | inl lt ↦ get_or_append_left xs (replicate m d) d i lt
      | inr le ↦
          let more : get_or (replicate m d) (i - length xs) d ≡ d =
          elim (cases_lt (i - length xs) m) [
            | inl lt ↦ get_or-replicate m (i - length xs) d d lt
            | inr past ↦ get_or_past (replicate m d) (i - length xs) d (omega (arith, length-replicate m d))
          ] in
          get_or-append_right xs (replicate m d) (length xs) i d refl le ∙ more ∙ sym (get_or_past xs i d le)
    ]

-- whether a block was written
abbrev is_there : ℕ → ℕ
is_there b = cond {A = ℕ} (nat_lt b unwritten) 1 0

-- as many ends
pub heads_new : (n end len : ℕ) → listed (head_at (replicate n unwritten) [] end) len ≡ replicate len end
heads_new n end len =
    listed_as (head_at (replicate n unwritten) [] end) len (replicate len end) (length-replicate len end) (λ k lt. sym (get_or-replicate len k end 0 lt))

-- and no block that was written
none_there : (n : ℕ) → count_by (λ b. nat_lt b unwritten) (replicate n unwritten) ≡ 0
none_there zero = refl
none_there (suc n) = none_there n

pub blocks_new : (blocks written : List ℕ) (n : ℕ) → blocks ≡ replicate n unwritten → written ≡ [] → n < unwritten → AreBlocks blocks written
blocks_new blocks written n is none few =
    let many : length (replicate n unwritten) ≡ n = length-replicate n unwritten in
    subst (λ (l : List ℕ). AreBlocks l written) (sym is)
    (subst (λ (l : List ℕ). AreBlocks (replicate n unwritten) l) (sym none) record {
      few = omega arith;
      counted = omega (arith, none_there n);
      whole = λ i lt there. absurd (omega (arith, get_or-replicate n i unwritten 0 (omega arith)));
      apart = λ i j lt j_lt there same. absurd (omega (arith, get_or-replicate n i unwritten 0 (omega arith)));
    })

-- a list that is made longer
pub longer : (xs : List ℕ) (n len m d : ℕ) → len ≡ length xs → n ≡ len + m → take n xs ++ replicate (n - len) d ≡ xs ++ replicate m d
longer xs n len m d many more =
    let left : n - len ≡ m = omega arith in
    ap (λ ys. ys ++ replicate (n - len) d) (take_all n xs (omega arith)) ∙ ap (λ k. xs ++ replicate k d) left

module _ (blocks written : List ℕ) (old : AreBlocks blocks written) where
  -- where the next block begins
  pub blocks_end : (len : ℕ) → len ≡ length written → (length written ≡ len / 1024 * 1024) × (len / 1024 < unwritten)
  blocks_end len is =
      let some = count_by-le-length (λ b. nat_lt b unwritten) blocks in
      let counted = old.counted in
      let few = old.few in
      (omega arith, omega arith)

  module _ (block n end : ℕ) (a_block : block < length blocks) (new : get_or blocks block 0 ≡ unwritten) (last : length written ≡ n * 1024) where
    -- it is one more
    one_more : n < unwritten → count_by (λ b. nat_lt b unwritten) (set blocks block n) ≡ count_by (λ b. nat_lt b unwritten) blocks + 1
    one_more few =
        let before : is_there (get_or blocks block 0) ≡ 0 = ap is_there new in
        let after : is_there n ≡ 1 = ap (λ b. cond {A = ℕ} b 1 0) (lt-ltb n unwritten few) in
        let moved : count_by (λ b. nat_lt b unwritten) (set blocks block n) + is_there (get_or blocks block 0) ≡ count_by (λ b. nat_lt b unwritten) blocks + is_there n = sum_by-set is_there blocks block n 0 a_block in
        omega arith

    -- so there was room for it
    pub block_room : n < unwritten → length written + 1024 ≤ 1024 * length blocks
    block_room few =
        omega (arith, one_more few, old.counted, count_by-le-length (λ b. nat_lt b unwritten) (set blocks block n), length-set blocks block n)

    -- another block is where it was, and this one the last
    here : get_or (set blocks block n) block 0 ≡ n
    here = get_or-set_same blocks block n 0 a_block

    other : (i : ℕ) → (i ≡ block → ⊥) → get_or (set blocks block n) i 0 ≡ get_or blocks i 0
    other i ne = get_or-set_other blocks block i n 0 ne

    pub blocks_more : n < unwritten → AreBlocks (set blocks block n) (written ++ replicate 1024 end)
    blocks_more few =
        let many = length-set blocks block n in
        let long : length (written ++ replicate 1024 end) ≡ length written + 1024 = length-append written (replicate 1024 end) ∙ ap (λ m. length written + m) (length-replicate 1024 end) in
        record {
          few = omega (arith, old.few);
          counted = omega (arith, one_more few, old.counted);
          whole = λ i lt there. elim (cases_eq i block) [
            | inl e ↦ let at : get_or (set blocks block n) i 0 ≡ n = ap (λ j. get_or (set blocks block n) j 0) e ∙ here in omega arith
            | inr ne ↦ let at = other i ne in omega (arith, old.whole i (omega arith) (omega arith))
          ];
          apart = λ i j i_lt j_lt there same. elim (cases_eq i block) [
            | inl e ↦ elim (cases_eq j block) [
              | inl f ↦ e ∙ sym f
              | inr ne ↦
                  let at : get_or (set blocks block n) i 0 ≡ n = ap (λ k. get_or (set blocks block n) k 0) e ∙ here in
                  let was = other j ne in
                  absurd (omega (arith, old.whole j (omega arith) (omega arith)))
            ]
            | inr ne ↦
                let was = other i ne in
                elim (cases_eq j block) [
                  | inl f ↦
                      let at : get_or (set blocks block n) j 0 ≡ n = ap (λ k. get_or (set blocks block n) k 0) f ∙ here in
                      absurd (omega (arith, old.whole i (omega arith) (omega arith)))
                  | inr nf ↦ old.apart i j (omega arith) (omega arith) (omega arith) (sym was ∙ same ∙ other j nf)
                ]
          ];
        }

    -- it has what it had, and so have the others
    pub head_more : n < unwritten → (k : ℕ) → head_at (set blocks block n) (written ++ replicate 1024 end) end k ≡ head_at blocks written end k
    head_more few k =
        let b = k / 1024 in
        get_or_more written 1024 (spot (set blocks block n) k) end
        ∙ elim (cases_eq b block) [
          | inl e ↦
              let at : get_or (set blocks block n) b 0 ≡ n = ap (λ j. get_or (set blocks block n) j 0) e ∙ here in
              let was : get_or blocks b 0 ≡ unwritten = ap (λ j. get_or blocks j 0) e ∙ new in
              get_or_past written (spot (set blocks block n) k) end (omega arith) ∙ sym (get_or_past written (spot blocks k) end (omega arith))
          | inr ne ↦ ap (λ p. get_or written (p * 1024 + k % 1024) end) (other b ne)
        ]

  -- a head whose block is written is there
  pub head_there : (k : ℕ) → k / 1024 < length blocks → get_or blocks (k / 1024) 0 < unwritten → spot blocks k < length written
  head_there k lt there = omega (arith, old.whole (k / 1024) lt there)

  -- another head
  pub head_set : (end len chain v : ℕ) → chain < len → len ≤ 1024 * length blocks → get_or blocks (chain / 1024) 0 < unwritten → listed (head_at blocks (set written (spot blocks chain) v) end) len ≡ set (listed (head_at blocks written end) len) chain v
  head_set end len chain v lt within there =
      listed_set (head_at blocks (set written (spot blocks chain) v) end) (head_at blocks written end) len chain v lt
      (get_or-set_same written (spot blocks chain) v end (head_there chain (omega arith) there))
      (λ k k_lt ne. get_or-set_other written (spot blocks chain) (spot blocks k) v end
      (λ e.
      let one : get_or blocks (chain / 1024) 0 ≡ get_or blocks (k / 1024) 0 = omega arith in
      let same : chain / 1024 ≡ k / 1024 = old.apart (chain / 1024) (k / 1024) (omega arith) (omega arith) there one in
      ne (omega arith)
      ))

-- heads that are the same before a write are the same after it
pub heads_after : (blocks written blocks' written' : List ℕ) (end len : ℕ) → ((k : ℕ) → head_at blocks' written' end k ≡ head_at blocks written end k) → listed (head_at blocks' written' end) len ≡ listed (head_at blocks written end) len
heads_after blocks written blocks' written' end len same = listed_same (head_at blocks' written' end) (head_at blocks written end) len (λ k lt. same k)
