-- Kits of the same plugins are alike, since a module has one image.
use Rattle.std.proofs.Common.{◌≡◌, [], ◌∷◌, refl, sym, ◌∙◌}
use Rattle.wmodule.specs.Syntax.{module_of}
use Rattle.whost.specs.Refused.{OneImage}
use Rattle.plugin.specs.Plugins.{Configured}
use Rattle.plugin.specs.Kit.{Ready, IsReadyOf}
use Rattle.plugin.specs.Laws.{KitsAreAlike}

one_ready : OneImage → (p : Configured) (one other : Ready) → IsReadyOf p one → IsReadyOf p other → one ≡ other
one_ready image p one other a b = λ j. record {
  weight = (a.weight ∙ sym b.weight) j;
  fuel = (a.fuel ∙ sym b.fuel) j;
  content = (a.content ∙ sym b.content) j;
  image = image.same (module_of p.content) p.fuel one.image other.image a.image b.image j;
}

pub alike : OneImage → KitsAreAlike
alike image [] [] [] a b = refl
alike image [] [] (y ∷ ys) a b = absurd b
alike image [] (x ∷ xs) ys a b = absurd a
alike image (p ∷ ps) [] ys a b = absurd a
alike image (p ∷ ps) (x ∷ xs) [] a b = absurd b
alike image (p ∷ ps) (x ∷ xs) (y ∷ ys) a b = λ j. one_ready image p x y a.0 b.0 j ∷ alike image ps xs ys a.1 b.1 j
