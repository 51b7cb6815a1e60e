-- What is so of a plugin of a kit.
use Rattle.std.specs.Prelude.{IfSome}
use Rattle.rules.specs.Verdict.{IsWithin}
use Rattle.plugin.specs.declared.member.Member.TheInside.{Inside}
use Rattle.plugin.specs.Kit.{Ready, FilterSays, ScoreSays}
use Rattle.plugin.specs.inside.Said.{SaidOfAll}

-- the plugin, as it is before its calls
abbrev pub ready_of : Inside → Ready
ready_of m = record { weight = m.weight; fuel = m.fuel; content = m.instance.content; image = m.instance.image }

-- what was noted is what it says
pub record IsSound (m : Inside) : Type 0 where
  pub filter : SaidOfAll (FilterSays (ready_of m)) m.filter.said m.filter.first.items m.filter.second.items m.filter.third.items
  pub score : SaidOfAll (ScoreSays (ready_of m)) m.score.said m.score.first.items m.score.second.items m.score.third.items
  pub within : IfSome m.score.said IsWithin
