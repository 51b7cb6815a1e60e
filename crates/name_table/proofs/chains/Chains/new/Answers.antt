-- All slots are in the last chain, and the others are empty.
use Rattle.std.proofs.Common.{◌≡◌, ◌+◌, length, get_or, set, replicate, refl, sym, ap, subst, ◌∙◌, arith, get_or-set_same, get_or-set_other}
use Rattle.std.proofs.lemmas.List.{length-replicate, get_or-replicate, length-set}
use Rattle.std.proofs.lemmas.List.FromFn.{length-range_with_len, get_or-range_with_len}
use Rattle.std.specs.List.{range_with_len}
use Rattle.name_table.specs.declared.chains.Chains.{Chains}
use Rattle.name_table.specs.inside.Written.{Hung}
use Rattle.name_table.specs.inside.Woven.{IsWoven}
use Rattle.name_table.proofs.WovenLemmas.{woven_new}
use Rattle.name_table.proofs.chains.Chains.new.Goals as goal

pub set-requires : goal.set-requires
set-requires c =
    let many : length c.in-Ok.heads ≡ c.args.buckets + 1 = ap length c.in-Ok.ensures ∙ length-replicate (c.args.buckets + 1) c.args.room in
    omega arith

pub returns-clause-homes : goal.returns-clause-homes
returns-clause-homes c = ap (λ (s : Hung). s.homes) c.in-Ok-new.ensures

pub returns-clause-heads : goal.returns-clause-heads
returns-clause-heads c =
    ap length c.set.ensures ∙ length-set c.in-Ok.heads c.args.buckets 0
    ∙ ap length c.in-Ok.ensures ∙ length-replicate (c.args.buckets + 1) c.args.room

pub returns-clause-woven : goal.returns-clause-woven
returns-clause-woven c =
    let n = c.args.room in
    let b = c.args.buckets in
    let few_b = c.requires.few_buckets in
    let few_n = c.requires.few_slots in
    let ends = replicate (b + 1) n in
    let many : length ends ≡ b + 1 = length-replicate (b + 1) n in
    let heads : c.set.new.self ≡ set ends b 0 = c.set.ensures ∙ ap (λ hs. set hs b 0) c.in-Ok.ensures in
    let d : Chains = record { heads = set ends b 0; links = record { nexts = range_with_len 1 n; homes = replicate n b } } in
    let made : Chains = record { heads = c.set.new.self; links = c.in-Ok-new.links } in
    let is : made ≡ d = λ t. record { heads = heads t; links = c.in-Ok-new.ensures t } in
    subst IsWoven (sym is)
    (
    woven_new d n b (omega arith) (omega arith) (length-range_with_len 1 n) (length-set ends b 0 ∙ many) refl
    (λ k lt. let at : get_or (range_with_len 1 n) k 0 ≡ 1 + k = get_or-range_with_len 1 n k 0 lt in omega arith)
    (get_or-set_same ends b 0 0 (omega arith))
    (λ k lt. get_or-set_other ends b k 0 0 (λ e. omega arith) ∙ get_or-replicate (b + 1) k n 0 (omega arith))
    )
