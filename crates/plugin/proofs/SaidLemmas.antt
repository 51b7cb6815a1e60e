-- What a plugin said of all nodes it says of each.
use Rattle.std.proofs.Common.{◌≡◌, ℕ, List, Option, Some, None, IfSome, sym, subst}
use Rattle.whost.specs.Handed.{LookAlike}
use Rattle.whost.specs.declared.sight.Shows.TheVariants.{ThisPod}
use Rattle.whost.proofs.InstanceLemmas.{same_pod}
use Rattle.whost.specs.declared.records.Records.{Records}
use Rattle.whost.specs.declared.records.Versions.{Versions}
use Rattle.rules.specs.declared.verdict.ScoreVerdict.{ScoreVerdict}
use Rattle.rules.specs.Verdict.{IsWithin}
use Rattle.plugin.specs.inside.Said.{SaidOfAll}

-- with a pod that has the same records
with_this_pod : {V : Type 0} (Says : Records → V → Type 0) (v : V) (first second third : List ℕ) (records : Records) → first ≡ records.pod.first → second ≡ records.pod.second → third ≡ records.pod.third
    → ((node : Versions) → Says (record { pod = record { first = first; second = second; third = third }; node = node }) v) → (node : Versions) → Says (record records { node = node }) v
with_this_pod Says v first second third records one two three says node =
    let pod : Versions = record { first = first; second = second; third = third } in
    let same : pod ≡ records.pod = λ j. record { first = one j; second = two j; third = three j } in
    subst (λ (p : Versions). Says (record { pod = p; node = node }) v) same (says node)

-- and back
with_its_records : {V : Type 0} (Says : Records → V → Type 0) (v : V) (first second third : List ℕ) (records : Records) → first ≡ records.pod.first → second ≡ records.pod.second → third ≡ records.pod.third
    → ((node : Versions) → Says (record records { node = node }) v) → (node : Versions) → Says (record { pod = record { first = first; second = second; third = third }; node = node }) v
with_its_records Says v first second third records one two three says node =
    let pod : Versions = record { first = first; second = second; third = third } in
    let same : records.pod ≡ pod = λ j. record { first = sym one j; second = sym two j; third = sym three j } in
    subst (λ (p : Versions). Says (record { pod = p; node = node }) v) same (says node)

-- what was noted is said with this pod, and each node
pub said_of_each : {V : Type 0} (Says : Records → V → Type 0) (said : Option V) (first second third : List ℕ) (v : V) (records : Records) → SaidOfAll Says said first second third
    → said ≡ Some v → first ≡ records.pod.first → second ≡ records.pod.second → third ≡ records.pod.third → (node : Versions) → Says (record records { node = node }) v
said_of_each Says said first second third v records noted is one two three =
    with_this_pod Says v first second third records one two three (subst (λ (s : Option _). SaidOfAll Says s first second third) is noted)

-- what is noted is what was said with the pod of these records, and each node
pub noted_of_all : {V : Type 0} (Says : Records → V → Type 0) (said now : Option V) (first second third : List ℕ) (records : Records)
    → IfSome now (λ v. said ≡ Some v) → IfSome now (λ v. first ≡ records.pod.first) → IfSome now (λ v. second ≡ records.pod.second)
    → IfSome now (λ v. third ≡ records.pod.third)
    → IfSome said (λ v. (node : Versions) → Says (record records { node = node }) v) → SaidOfAll Says now first second third
noted_of_all Says said None first second third records is one two three says = tt
noted_of_all Says said (Some v) first second third records is one two three says =
    with_its_records Says v first second third records one two three (subst (λ (s : Option _). IfSome s (λ w. (node : Versions) → Says (record records { node = node }) w)) is says)

pub noted_within : (said now : Option ScoreVerdict) → IfSome now (λ v. said ≡ Some v) → IfSome said IsWithin → IfSome now IsWithin
noted_within said None is within = tt
noted_within said (Some v) is within = subst (λ (s : Option ScoreVerdict). IfSome s IsWithin) is within

-- what is said where the pod's records alone are shown is said of each node
pub of_each_node : {V : Type 0} (Says : Records → V → Type 0) (said : Option V) (records : Records) → IfSome said (λ v. (told : Records) → LookAlike ThisPod records told → Says told v)
    → IfSome said (λ v. (node : Versions) → Says (record records { node = node }) v)
of_each_node Says None records says = tt
of_each_node Says (Some v) records says = λ node. says (record records { node = node }) (same_pod records node)
