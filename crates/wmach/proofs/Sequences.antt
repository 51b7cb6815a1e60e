-- Typed instructions one after the other, and above other operands.
use Rattle.std.proofs.Common.{◌++◌, sym, ap, ◌∙◌, subst, append_assoc}
use Rattle.wcode.specs.Syntax.{Body, done, plain, block, loop, if_else, br_table}
use Rattle.wbody.specs.Context.{Operands, Context}
use Rattle.wbody.specs.Typing.{Rule, Weakened, Typed}
use Rattle.wmach.specs.Reduction.{followed_by}

-- an instruction with more operands below
weakened_more : (R : Rule) (before after more : Operands) → Weakened R before after → Weakened R (before ++ more) (after ++ more)
weakened_more R before after more f = record {
  takes = f.takes;
  gives = f.gives;
  below = f.below ++ more;
  rule = f.rule;
  before_is = ap (λ l. l ++ more) f.before_is ∙ append_assoc f.takes f.below more;
  after_is = ap (λ l. l ++ more) f.after_is ∙ append_assoc f.gives f.below more;
}

-- more operands below
below_more : (c : Context) (e : Body) (before after more : Operands) → Typed c e before after → Typed c e (before ++ more) (after ++ more)
below_more c done before after more t = ap (λ l. l ++ more) t
below_more c (plain p rest) before after more t =
    record { between = t.between ++ more; first = weakened_more _ before t.between more t.first; others = below_more c rest t.between after more t.others }
below_more c (block bt inside rest) before after more t =
    record { between = t.between ++ more; first = weakened_more _ before t.between more t.first; others = below_more c rest t.between after more t.others }
below_more c (loop bt inside rest) before after more t =
    record { between = t.between ++ more; first = weakened_more _ before t.between more t.first; others = below_more c rest t.between after more t.others }
below_more c (if_else bt then_arm else_arm rest) before after more t =
    record { between = t.between ++ more; first = weakened_more _ before t.between more t.first; others = below_more c rest t.between after more t.others }
below_more c (br_table targets default rest) before after more t =
    record { between = t.between ++ more; first = weakened_more _ before t.between more t.first; others = below_more c rest t.between after more t.others }

-- instructions one after the other
typed-append : (e after_e : Body) (c : Context) (before between after : Operands) → Typed c e before between → Typed c after_e between after → Typed c (followed_by e after_e) before after
typed-append done after_e c before between after t u = subst (λ l. Typed c after_e l after) (sym t) u
typed-append (plain p rest) after_e c before between after t u =
    record { between = t.between; first = t.first; others = typed-append rest after_e c t.between between after t.others u }
typed-append (block bt inside rest) after_e c before between after t u =
    record { between = t.between; first = t.first; others = typed-append rest after_e c t.between between after t.others u }
typed-append (loop bt inside rest) after_e c before between after t u =
    record { between = t.between; first = t.first; others = typed-append rest after_e c t.between between after t.others u }
typed-append (if_else bt then_arm else_arm rest) after_e c before between after t u =
    record { between = t.between; first = t.first; others = typed-append rest after_e c t.between between after t.others u }
typed-append (br_table targets default rest) after_e c before between after t u =
    record { between = t.between; first = t.first; others = typed-append rest after_e c t.between between after t.others u }

-- a continuation, and what comes after its label
pub followed_by-typed : (e after_e : Body) (c : Context) (carries leaves below after : Operands) → Typed c e carries leaves → Typed c after_e (leaves ++ below) after → Typed c (followed_by e after_e) (carries ++ below) after
followed_by-typed e after_e c carries leaves below after t u =
    typed-append e after_e c (carries ++ below) (leaves ++ below) after (below_more c e carries leaves below t) u
