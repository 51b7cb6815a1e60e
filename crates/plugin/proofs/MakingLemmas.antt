-- How a kit is made, plugin by plugin.
use Rattle.std.proofs.Common.{◌≡◌, ℕ, zero, suc, ◌+◌, ◌<◌, ◌≤◌, List, [], ◌∷◌, ◌++◌, length, take, Option, Some, IfSome, slice_get, All, sym, subst, arith, add-one}
use Rattle.std.specs.List.{AllZip}
use Rattle.std.proofs.lemmas.List.{map-append, length-map, length-take, take_all}
use Rattle.std.proofs.lemmas.List.Elements.{All-nil, All-cons, All-push}
use Rattle.std.proofs.lemmas.Slice.Zip.{AllZip-long}
use Rattle.wmach.proofs.OverBr.{slice_get_some}
use Rattle.plugin.specs.declared.fault.KitFault.{KitFault}
use Rattle.plugin.specs.Plugins.{Configured, IsWeight}
use Rattle.plugin.specs.Refused.{HasImage, WhyNotReady, WhyNoKit}
use Rattle.plugin.specs.Kit.{Ready, InstanceState, ready_parts, IsAtImage, IsKitOf, IsReadyOf}
use Rattle.plugin.specs.inside.Kit.{OneMoreReady, AreInstances}

-- one more of each of two lists
zipped_more : {A B : Type 0} (R : A → B → Type 0) (xs : List A) (ys : List B) (i : ℕ) (x : A) (y : B) → slice_get xs i ≡ Some x → AllZip R (take i xs) ys → R x y → AllZip R (take (suc i) xs) (ys ++ y ∷ [])
zipped_more R [] ys i x y at zip now = cc
zipped_more R (a ∷ xs) [] zero x y at zip now =
    let same : x ≡ a = cc in
    (subst (λ b. R b y) same now, tt)
zipped_more R (a ∷ xs) (b ∷ ys) zero x y at zip now = absurd zip
zipped_more R (a ∷ xs) [] (suc i) x y at zip now = absurd zip
zipped_more R (a ∷ xs) (b ∷ ys) (suc i) x y at zip now = (zip.0, zipped_more R xs ys i x y at zip.1 now)

-- one more plugin is ready
pub ready_more : (plugins : List Configured) (old new : List InstanceState) (i : ℕ) → i < length plugins → AllZip IsReadyOf (take i plugins) (ready_parts old)
    → IfSome (slice_get plugins i) (λ p. OneMoreReady p old new) → AllZip IsReadyOf (take (i + 1) plugins) (ready_parts new)
ready_more plugins old new i below zip joined =
    let there = slice_get_some plugins i below in
    let more = subst (λ (o : Option Configured). IfSome o (λ p. OneMoreReady p old new)) there.1 joined in
    rw (add-one, more.joined, map-append (λ (i : InstanceState). i.ready) old (more.instance ∷ [])) (zipped_more IsReadyOf plugins (ready_parts old) i there.0 more.instance.ready there.1 zip more.is)

-- and its weight is one as well
pub weights_more : (plugins : List Configured) (old new : List InstanceState) (i : ℕ) → i < length plugins → All (λ i. IsWeight i.ready.weight) old
    → IfSome (slice_get plugins i) (λ p. OneMoreReady p old new) → All (λ i. IsWeight i.ready.weight) new
weights_more plugins old new i below weights joined =
    let there = slice_get_some plugins i below in
    let more = subst (λ (o : Option Configured). IfSome o (λ p. OneMoreReady p old new)) there.1 joined in
    subst (λ (kit : List InstanceState). All (λ i. IsWeight i.ready.weight) kit) (sym more.joined) (All-push (λ (i : InstanceState). IsWeight i.ready.weight) old more.instance weights more.weight)

-- and its instance is at its image
pub images_more : (plugins : List Configured) (old new : List InstanceState) (i : ℕ) → i < length plugins → All IsAtImage old
    → IfSome (slice_get plugins i) (λ p. OneMoreReady p old new) → All IsAtImage new
images_more plugins old new i below images joined =
    let there = slice_get_some plugins i below in
    let more = subst (λ (o : Option Configured). IfSome o (λ p. OneMoreReady p old new)) there.1 joined in
    subst (λ (kit : List InstanceState). All IsAtImage kit) (sym more.joined) (All-push IsAtImage old more.instance images more.at_image)

-- each plugin of which an instance was made has an image
have_images : (plugins : List Configured) (kit : List Ready) → AllZip IsReadyOf plugins kit → All HasImage plugins
have_images [] [] zip = All-nil HasImage
have_images [] (r ∷ kit) zip = absurd zip
have_images (p ∷ plugins) [] zip = absurd zip
have_images (p ∷ plugins) (r ∷ kit) zip = All-cons HasImage p plugins (r.image, zip.0.image) (have_images plugins kit zip.1)

-- the first plugin that isn't ready
pub no_kit : (plugins : List Configured) (kit : List Ready) (place : ℕ) (fault : KitFault) → place < length plugins → AllZip IsReadyOf (take place plugins) kit
    → IfSome (slice_get plugins place) (λ p. WhyNotReady p fault) → WhyNoKit plugins fault
no_kit plugins kit place fault below zip why =
    let there = slice_get_some plugins place below in
    record {
      place = place;
      plugin = there.0;
      there = there.1;
      fails = subst (λ (o : Option Configured). IfSome o (λ p. WhyNotReady p fault)) there.1 why;
      before = have_images (take place plugins) kit zip;
    }

-- all instances of a kit
pub all_instances : (plugins : List Configured) (kit : List InstanceState) (i : ℕ) → length plugins ≤ 16 → AllZip IsReadyOf (take i plugins) (ready_parts kit) → All (λ i. IsWeight i.ready.weight) kit → AreInstances kit
all_instances plugins kit i most zip weights =
    let long = AllZip-long IsReadyOf (take i plugins) (ready_parts kit) zip in
    record { most = omega (arith, long, length-map kit (λ (i : InstanceState). i.ready), length-take i plugins); weights = weights }

-- where there is an instance there is a plugin
pub some_plugin : (plugins : List Configured) (kit : List InstanceState) (i : ℕ) → AllZip IsReadyOf (take i plugins) (ready_parts kit) → 0 < length kit → 0 < length plugins
some_plugin plugins kit i zip some =
    omega (arith, some, AllZip-long IsReadyOf (take i plugins) (ready_parts kit) zip, length-map kit (λ (i : InstanceState). i.ready), length-take i plugins)

-- a kit of the first plugins is one of them all, where there are no more
pub whole_kit : (plugins : List Configured) (kit : List Ready) (i : ℕ) → length plugins ≤ i → AllZip IsReadyOf (take i plugins) kit → IsKitOf plugins kit
whole_kit plugins kit i past zip = subst (λ (ps : List Configured). AllZip IsReadyOf ps kit) (take_all i plugins past) zip
