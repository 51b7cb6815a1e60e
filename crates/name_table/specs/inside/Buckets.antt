-- Which bucket a name belongs to, and how a table's slots are filed by it.
use Rattle.std.specs.Prelude.{◌≡◌, ℕ, ◌+◌, List, None, Some, Option, bit_and, map, count_by, is_some, length}
use Rattle.std.specs.declared.hash.RandomState.{RandomState}
use Rattle.std.specs.RandomState.{initial_hasher}
use Rattle.std.specs.Hash.DefaultHasher as sip
use Rattle.name_table.specs.declared.chains.Chains.{Chains}
use Rattle.name_table.specs.declared.entry.Entry.{Entry}
use Rattle.name_table.specs.Slots.{Slots, NamesOnce}
use Rattle.name_table.specs.inside.Woven.{IsWoven}

-- the bucket of a name, under these keys
unfoldable pub bucket_of : RandomState → ℕ → List ℕ → ℕ
bucket_of keys mask name = bit_and (sip.finish (sip.write (initial_hasher keys) name)) mask

-- the chain that a slot hangs in: its name's bucket, or that of the free slots, which is the last
abbrev pub home_of : {X : Type 0} → RandomState → ℕ → Option (Entry X) → ℕ
home_of keys mask None = mask + 1
home_of keys mask (Some e) = bucket_of keys mask e.name

-- each slot hangs in its chain, no two have one name, and so many have one
pub record IsFiled {X : Type 0} (keys : RandomState) (mask : ℕ) (chains : Chains) (s : Slots X) (len : ℕ) : Type 0 where
  pub woven : IsWoven chains
  pub heads : length chains.heads ≡ mask + 2
  pub homes : chains.links.homes ≡ map (home_of keys mask) s
  pub counted : len ≡ count_by is_some s
  pub once : NamesOnce s
