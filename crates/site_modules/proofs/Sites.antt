-- How plugins are configured one after the other, and kits made of them.
use Rattle.std.proofs.Common.{◌≡◌, ℕ, zero, suc, ◌+◌, ◌≤◌, List, [], ◌∷◌, ◌++◌, length, map, take, Option, Some, IfSome, slice_get, All, refl, sym, ap, subst, ◌∙◌, arith, add-one}
use Rattle.std.specs.Prelude.{option_map}
use Rattle.std.proofs.lemmas.List.{length-map, map-append, take_all}
use Rattle.std.proofs.lemmas.List.Elements.{All-nil, All-cons, All-head, All-tail}
use Rattle.std.proofs.lemmas.Option.{none-some, same_Some, slice_get-map}
use Rattle.plugin.specs.Plugins.{Configured, IsWeight, IsFuel}
use Rattle.plugin.specs.Plugins as configured
use Rattle.command.specs.Words.{SpecSyntax, syntax_of}
use Rattle.command.specs.Within.{AreWithinLimits, HaveDistinctNames, IsWithinLimits}
use Rattle.command.specs.declared.asked.Spec.{Spec}
use Rattle.site_modules.specs.Verdict.{front_of}
use Rattle.streams.specs.declared.fault.RunFault.TheVariants as run_fault
use Rattle.output_lines.specs.declared.named_rule.NamedRule.{NamedRule}
use Rattle.fault_line.specs.declared.fault.Fault.{Fault}
use Rattle.fault_line.specs.declared.fault.Fault.TheVariants.{Words, Misused, Plugin, Unread, UnreadModule, Run, Uncounted}
use Rattle.site_modules.specs.Modules.{ArePlugins, IsPlugin, ModuleRefused, WhyNoModules, WhyNoPlugin, AreFromFiles, named_of}
use Rattle.site_modules.specs.inside.Modules.{WhyNoModule}

-- ---- lists

at_image : {A B : Type 0} (f : A → B) (xs : List A) (j : ℕ) (x : A) → slice_get xs j ≡ Some x → slice_get (map f xs) j ≡ Some (f x)
at_image f xs j x there = slice_get-map f xs j ∙ ap (option_map f) there

-- ---- plugins

-- there are as many plugins as are configured
pub as_many : (specs : List SpecSyntax) (modules : List (List ℕ)) (plugins : List Configured) → ArePlugins specs modules plugins → length plugins ≡ length specs
as_many [] [] [] are = refl
as_many [] [] (p ∷ plugins) are = absurd are
as_many [] (b ∷ modules) plugins are = absurd are
as_many (s ∷ specs) [] plugins are = absurd are
as_many (s ∷ specs) (b ∷ modules) [] are = absurd are
as_many (s ∷ specs) (b ∷ modules) (p ∷ plugins) are = ap suc (as_many specs modules plugins are.1)

-- each is one that is configured, by its name
spec_at : (specs : List Spec) (modules : List (List ℕ)) (plugins : List Configured) (j : ℕ) (p : Configured) → ArePlugins (map syntax_of specs) modules plugins
    → slice_get plugins j ≡ Some p → (s : Spec) × (slice_get specs j ≡ Some s) × (p.name ≡ s.name)
spec_at [] [] [] j p are at = absurd (none-some p at)
spec_at [] [] (q ∷ plugins) j p are at = absurd are
spec_at [] (b ∷ modules) plugins j p are at = absurd are
spec_at (s ∷ specs) [] plugins j p are at = absurd are
spec_at (s ∷ specs) (b ∷ modules) [] j p are at = absurd are
spec_at (s ∷ specs) (b ∷ modules) (q ∷ plugins) zero p are at =
    (s, refl, ap (λ x. x.name) (sym (same_Some q p at)) ∙ are.0.name)
spec_at (s ∷ specs) (b ∷ modules) (q ∷ plugins) (suc j) p are at = spec_at specs modules plugins j p are.1 at

-- so their names differ where the configured ones do
names_differ : (specs : List Spec) (modules : List (List ℕ)) (plugins : List Configured) → HaveDistinctNames specs → ArePlugins (map syntax_of specs) modules plugins
    → configured.HaveDistinctNames plugins
names_differ specs modules plugins distinct are j k one other at there same =
    let first = spec_at specs modules plugins j one are at in
    let second = spec_at specs modules plugins k other are there in
    distinct j k first.0 second.0 first.1 second.1 (sym first.2 ∙ same ∙ second.2)

-- their weights and fuels are configured ones
weights_are : (specs : List Spec) (modules : List (List ℕ)) (plugins : List Configured) → All IsWithinLimits specs → ArePlugins (map syntax_of specs) modules plugins
    → All (λ p. IsWeight p.weight) plugins
weights_are [] [] [] limits are = All-nil (λ p. IsWeight p.weight)
weights_are [] [] (p ∷ plugins) limits are = absurd are
weights_are [] (b ∷ modules) plugins limits are = absurd are
weights_are (s ∷ specs) [] plugins limits are = absurd are
weights_are (s ∷ specs) (b ∷ modules) [] limits are = absurd are
weights_are (s ∷ specs) (b ∷ modules) (p ∷ plugins) limits are =
    let limit = All-head IsWithinLimits s specs limits in
    let weight : IsWeight s.weight = record { least = limit.least_weight; most = limit.most_weight } in
    All-cons (λ p. IsWeight p.weight) p plugins (subst IsWeight (sym are.0.weight) weight)
    (weights_are specs modules plugins (All-tail IsWithinLimits s specs limits) are.1)

fuels_are : (specs : List Spec) (modules : List (List ℕ)) (plugins : List Configured) → All IsWithinLimits specs → ArePlugins (map syntax_of specs) modules plugins
    → All (λ p. IsFuel p.fuel) plugins
fuels_are [] [] [] limits are = All-nil (λ p. IsFuel p.fuel)
fuels_are [] [] (p ∷ plugins) limits are = absurd are
fuels_are [] (b ∷ modules) plugins limits are = absurd are
fuels_are (s ∷ specs) [] plugins limits are = absurd are
fuels_are (s ∷ specs) (b ∷ modules) [] limits are = absurd are
fuels_are (s ∷ specs) (b ∷ modules) (p ∷ plugins) limits are =
    let limit = All-head IsWithinLimits s specs limits in
    let fuel : IsFuel s.fuel = record { least = limit.least_fuel; most = limit.most_fuel } in
    All-cons (λ p. IsFuel p.fuel) p plugins (subst IsFuel (sym are.0.fuel) fuel)
    (fuels_are specs modules plugins (All-tail IsWithinLimits s specs limits) are.1)

-- so they are within the limits of a site's plugins
pub within : (specs : List Spec) (modules : List (List ℕ)) (plugins : List Configured) → AreWithinLimits specs → ArePlugins (map syntax_of specs) modules plugins
    → configured.AreWithinLimits plugins
within specs modules plugins limits are = record {
  most = omega (arith, as_many (map syntax_of specs) modules plugins are, length-map specs syntax_of, limits.most);
  weights = weights_are specs modules plugins limits.limits are;
  fuels = fuels_are specs modules plugins limits.limits are;
  names = names_differ specs modules plugins limits.names are;
}

-- one more plugin is had
pub plugins_more : (specs : List SpecSyntax) (modules : List (List ℕ)) (plugins : List Configured) (i : ℕ) (s : SpecSyntax) (b : List ℕ) (p : Configured)
    → slice_get specs i ≡ Some s → slice_get modules i ≡ Some b → ArePlugins (take i specs) (take i modules) plugins → IsPlugin s b p
    → ArePlugins (take (suc i) specs) (take (suc i) modules) (plugins ++ p ∷ [])
plugins_more [] modules plugins i s b p at there are is = absurd (none-some s at)
plugins_more (t ∷ specs) [] plugins i s b p at there are is = absurd (none-some b there)
plugins_more (t ∷ specs) (c ∷ modules) [] zero s b p at there are is =
    let same : s ≡ t = sym (same_Some t s at) in
    let alike : b ≡ c = sym (same_Some c b there) in
    (subst (λ x. IsPlugin x c p) same (subst (λ x. IsPlugin s x p) alike is), tt)
plugins_more (t ∷ specs) (c ∷ modules) (q ∷ plugins) zero s b p at there are is = absurd are
plugins_more (t ∷ specs) (c ∷ modules) [] (suc i) s b p at there are is = absurd are
plugins_more (t ∷ specs) (c ∷ modules) (q ∷ plugins) (suc i) s b p at there are is =
    (are.0, plugins_more specs modules plugins i s b p at there are.1 is)

-- the same, from the code's own lists
pub plugin_joins : {M C : Type 0} (bytes_of : M → List ℕ) (plugin_of : C → Configured) (specs : List Spec) (modules : List M) (old new : List C) (i : ℕ) (spec : Spec) (given : M) (one : C)
    → slice_get specs i ≡ Some spec → slice_get modules i ≡ Some given → new ≡ old ++ one ∷ []
    → ArePlugins (take i (map syntax_of specs)) (take i (map bytes_of modules)) (map plugin_of old)
    → IsPlugin (syntax_of spec) (bytes_of given) (plugin_of one)
    → ArePlugins (take (i + 1) (map syntax_of specs)) (take (i + 1) (map bytes_of modules)) (map plugin_of new)
plugin_joins bytes_of plugin_of specs modules old new i spec given one at there joined are is =
    rw (add-one, joined, map-append plugin_of old (one ∷ []))
    (plugins_more (map syntax_of specs) (map bytes_of modules) (map plugin_of old) i (syntax_of spec) (bytes_of given) (plugin_of one) (at_image syntax_of specs i spec at) (at_image bytes_of modules i given there) are is)

-- the module at a place is refused
pub refused_at : {M : Type 0} (bytes_of : M → List ℕ) (specs : List Spec) (modules : List M) (before : List Configured) (i : ℕ) (spec : Spec) (given : M) (fault : Fault)
    → slice_get specs i ≡ Some spec → slice_get modules i ≡ Some given
    → ArePlugins (take i (map syntax_of specs)) (take i (map bytes_of modules)) before
    → WhyNoPlugin spec.name (bytes_of given) fault → ModuleRefused (map syntax_of specs) (map bytes_of modules) fault
refused_at bytes_of specs modules before i spec given fault at there are why = record {
  place = i;
  spec = syntax_of spec;
  bytes = bytes_of given;
  spec_is = at_image syntax_of specs i spec at;
  bytes_are = at_image bytes_of modules i given there;
  before = before;
  are = are;
  why = why;
}

-- all of them are had
pub all_had : (specs : List SpecSyntax) (modules : List (List ℕ)) (plugins : List Configured) (i : ℕ) → length specs ≤ i → length modules ≡ length specs
    → ArePlugins (take i specs) (take i modules) plugins → ArePlugins specs modules plugins
all_had specs modules plugins i long same are =
    subst (λ ms. ArePlugins specs ms plugins) (take_all i modules (omega (arith, long, same)))
    (subst (λ ss. ArePlugins ss (take i modules) plugins) (take_all i specs long) are)

-- one more rule as it is told
one_named : (specs : List SpecSyntax) (i : ℕ) (s : SpecSyntax) → slice_get specs i ≡ Some s → named_of (take (suc i) specs) ≡ named_of (take i specs) ++ record { name = s.name; weight = s.weight } ∷ []
one_named [] i s at = absurd (none-some s at)
one_named (t ∷ specs) zero s at =
    ap (λ x. record { name = x.name; weight = x.weight } ∷ []) (same_Some t s at)
one_named (t ∷ specs) (suc i) s at = ap (λ rules. record { name = t.name; weight = t.weight } ∷ rules) (one_named specs i s at)

-- the same, from the code's own list
pub named_more : (specs : List Spec) (old new : List NamedRule) (i : ℕ) (spec : Spec) (name : List ℕ) → slice_get specs i ≡ Some spec → name ≡ spec.name
    → old ≡ named_of (take i (map syntax_of specs)) → new ≡ old ++ record { name = name; weight = spec.weight } ∷ [] → new ≡ named_of (take (i + 1) (map syntax_of specs))
named_more specs old new i spec name at same so_far joined =
    rw (add-one, joined, so_far, same) (sym (one_named (map syntax_of specs) i (syntax_of spec) (at_image syntax_of specs i spec at)))

-- ---- modules

-- one more module is read
read_more : (contents : List ℕ → Option (List ℕ)) (specs : List SpecSyntax) (modules : List (List ℕ)) (i : ℕ) (s : SpecSyntax) (b : List ℕ)
    → slice_get specs i ≡ Some s → AreFromFiles contents (take i specs) modules → IfSome (contents s.file) (λ whole. b ≡ front_of whole)
    → AreFromFiles contents (take (suc i) specs) (modules ++ b ∷ [])
read_more contents [] modules i s b at are is = absurd (none-some s at)
read_more contents (t ∷ specs) [] zero s b at are is =
    let same : s ≡ t = sym (same_Some t s at) in
    (subst (λ x. IfSome (contents x.file) (λ whole. b ≡ front_of whole)) same is, tt)
read_more contents (t ∷ specs) (c ∷ modules) zero s b at are is = absurd are
read_more contents (t ∷ specs) [] (suc i) s b at are is = absurd are
read_more contents (t ∷ specs) (c ∷ modules) (suc i) s b at are is = (are.0, read_more contents specs modules i s b at are.1 is)

-- the same, from the code's own lists
pub modules_more : {M : Type 0} (bytes_of : M → List ℕ) (contents : List ℕ → Option (List ℕ)) (specs : List Spec) (old new : List M) (i : ℕ) (spec : Spec) (given : M)
    → slice_get specs i ≡ Some spec → new ≡ old ++ given ∷ [] → AreFromFiles contents (take i (map syntax_of specs)) (map bytes_of old)
    → IfSome (contents spec.file.now) (λ whole. bytes_of given ≡ front_of whole)
    → AreFromFiles contents (take (i + 1) (map syntax_of specs)) (map bytes_of new)
modules_more bytes_of contents specs old new i spec given at joined are is =
    rw (add-one, joined, map-append bytes_of old (given ∷ []))
    (read_more contents (map syntax_of specs) (map bytes_of old) i (syntax_of spec) (bytes_of given) (at_image syntax_of specs i spec at) are is)

-- all of them are read
pub all_read : (contents : List ℕ → Option (List ℕ)) (specs : List SpecSyntax) (modules : List (List ℕ)) (i : ℕ) → length specs ≤ i
    → AreFromFiles contents (take i specs) modules → AreFromFiles contents specs modules
all_read contents specs modules i long are = subst (λ ss. AreFromFiles contents ss modules) (take_all i specs long) are

-- as many as there are plugins
as_many_read : (contents : List ℕ → Option (List ℕ)) (specs : List SpecSyntax) (modules : List (List ℕ)) → AreFromFiles contents specs modules → length modules ≡ length specs
as_many_read contents [] [] are = refl
as_many_read contents [] (b ∷ modules) are = absurd are
as_many_read contents (s ∷ specs) [] are = absurd are
as_many_read contents (s ∷ specs) (b ∷ modules) are = ap suc (as_many_read contents specs modules are.1)

pub many_modules : {M : Type 0} (bytes_of : M → List ℕ) (contents : List ℕ → Option (List ℕ)) (specs : List Spec) (modules : List M)
    → AreFromFiles contents (map syntax_of specs) (map bytes_of modules) → length modules ≡ length specs
many_modules bytes_of contents specs modules are =
    sym (length-map modules bytes_of) ∙ as_many_read contents (map syntax_of specs) (map bytes_of modules) are ∙ length-map specs syntax_of

-- where one can't be had, there are none
pub no_modules : (specs : List Spec) (first old new : ℕ) (i : ℕ) (spec : Spec) (fault : Fault) → slice_get specs i ≡ Some spec → old ≡ first
    → WhyNoModule (syntax_of spec) old new fault → WhyNoModules (map syntax_of specs) first new fault
no_modules specs first old new i spec (Words fault) at same why = absurd why
no_modules specs first old new i spec (Misused fault) at same why = absurd why
no_modules specs first old new i spec (Plugin name fault) at same why = absurd why
no_modules specs first old new i spec (Uncounted line) at same why = absurd why
no_modules specs first old new i spec (UnreadModule unread) at same why = absurd why
no_modules specs first old new i spec (Unread unread) at same why = record {
  place = i;
  spec = syntax_of spec;
  spec_is = at_image syntax_of specs i spec at;
  named = sym why.0;
  file = why.1;
  failed = omega (arith, same, why.2);
}
no_modules specs first old new i spec (Run run_fault.NoMemory) at same why = why ∙ same
no_modules specs first old new i spec (Run (run_fault.Line number fault)) at same why = absurd why
no_modules specs first old new i spec (Run run_fault.Read) at same why = absurd why
no_modules specs first old new i spec (Run run_fault.Write) at same why = absurd why
no_modules specs first old new i spec (Run run_fault.NoPlace) at same why = absurd why
