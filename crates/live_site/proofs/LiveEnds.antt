-- What it comes to, to decide of a cluster by a site's plugins, at each of its ends.
use Rattle.std.proofs.Common.{◌≡◌, ℕ, ◌≤◌, List, [], ◌∷◌, subst, arith}
use Rattle.choose.specs.Kits as choosing
use Rattle.objects.specs.Site.{Site}
use Rattle.output_lines.specs.declared.named_rule.NamedRule.{NamedRule}
use Rattle.plugin.specs.Kit.{Ready, rules_of}
use Rattle.streams.specs.Device.{DeviceUse}
use Rattle.command.specs.Words.{SpecSyntax}
use Rattle.live.specs.Live.{IsLive, manner}
use Rattle.site_modules.specs.Modules.{AreSiteKits, named_of}
use Rattle.live_site.specs.Live.{IsAnsweredBy, IsSiteLive}

module _ (specs : List SpecSyntax) (modules : List (List ℕ)) (workers : ℕ) (site : Site) (named : List NamedRule) (source out err : DeviceUse) (ended : ℕ) where
  -- the first kit answered
  pub answered_by : (kits : List (List Ready)) → 1 ≤ workers → AreSiteKits specs modules workers kits → named ≡ named_of specs
      → IsLive (manner site (choosing.rules_of rules_of kits) named) source out err ended → IsAnsweredBy modules specs site source out err ended
  answered_by [] some are are_named live = absurd (omega (arith, some, are.count))
  answered_by (kit ∷ kits) some are are_named live = record {
    plugins = are.plugins;
    are = are.are;
    kit = kit;
    is = are.all 0 kit (omega (arith, some, are.count));
    live = subst (λ names. IsLive (manner site (rules_of kit) names) source out err ended) are_named live;
  }

-- other modules are given where these are
pub live_given : (AreGiven AreToo : List (List ℕ) → Type 0) (specs : List SpecSyntax) (site : Site) (source out err : DeviceUse) (ended : ℕ) → ((modules : List (List ℕ)) → AreGiven modules → AreToo modules)
    → IsSiteLive AreGiven specs site source out err ended → IsSiteLive AreToo specs site source out err ended
live_given AreGiven AreToo specs site source out err ended too (modules, given, came) = (modules, too modules given, came)
