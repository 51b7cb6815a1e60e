-- A command that is built of what stands behind its name, and a program of its commands.
use Rattle.std.proofs.Common.{◌≡◌, ◌∙◌, ℕ, ◌+◌, ◌<◌, ◌≤◌, ◌||◌, Bool, false, List, [], ◌∷◌, ◌++◌, length, map, take, get_or, ap, ap₂, sym, subst}
use Rattle.std.proofs.Math.ListN.{get_or-map}
use Rattle.std.proofs.lemmas.List.{length-map, map-append, take_all, take_more}
use Rattle.std.specs.List.{fold}
use Rattle.clap.specs.Simple.{App}
use Rattle.clap.specs.declared.builder.arg.Arg.{Arg}
use Rattle.clap.specs.declared.builder.command.Command.{Command}
use Rattle.clap.specs.declared.builder.command.Command.TheViews.{out-Command}
use Rattle.clap.specs.Words.{AddsArg, AddsInTurn, AddsSubcommand, Rule, Shape, app_of, shape_of, with_rule, with_subcommand}
use Rattle.command.specs.declared.command_line.Takes.{Takes}
use Rattle.command.specs.inside.Built.{rule_and_reach, rule_by, shape_and_reach}

-- a list that is made in the order of another grows by one, and is whole at its end
pub one_more : {A B C : Type 0} (f : A → C) (g : B → C) (made : List A) (rows : List B) (all : List C) (i : ℕ) (d : B) (one : A) → i < length rows
    → map g rows ≡ all → map f made ≡ take i all → f one ≡ g (get_or rows i d) → map f (made ++ one ∷ []) ≡ take (i + 1) all
one_more f g made rows all i d one within same e is =
    let there : g (get_or rows i d) ≡ get_or all i (g d) = sym (get_or-map g rows i d) ∙ ap (λ l. get_or l i (g d)) same in
    let long : i < length all = subst (λ n. i < n) (sym (length-map rows g) ∙ ap length same) within in
    rw (take_more all i (g d) long, map-append f made (one ∷ [])) (ap₂ (λ l x. l ++ x ∷ []) e (is ∙ there))

pub whole : {B C : Type 0} (g : B → C) (rows : List B) (all : List C) (i : ℕ) → map g rows ≡ all → length rows ≤ i → take i all ≡ all
whole g rows all i same past = take_all i all (subst (λ n. n ≤ i) (sym (length-map rows g) ∙ ap length same) past)

-- a list's first and the others
firsts : {A B : Type 0} (x y : A × B) (xs ys : List (A × B)) → (x ∷ xs) ≡ (y ∷ ys) → x ≡ y
firsts x y xs ys e = cc

others : {A : Type 0} (x y : A) (xs ys : List A) → (x ∷ xs) ≡ (y ∷ ys) → xs ≡ ys
others x y xs ys e = cc

-- a command to which arguments are added in turn, none of which reaches below it
pub with_all : (old new : Command) (args : List Arg) (takes : List Takes) → AddsInTurn AddsArg old args new
    → map rule_and_reach args ≡ map (λ t. (rule_by t, false)) takes → (out-Command old).has_globals ≡ false
    → shape_and_reach new ≡ ((fold (λ app t. with_rule app (rule_by t)) (app_of old) takes).top, false)
with_all old new [] [] adds same local = ap shape_and_reach (sym adds) ∙ ap (λ (b : Bool). (shape_of old, b)) local
with_all old new [] (t ∷ ts) adds same local = cc
with_all old new (a ∷ rest) [] adds same local = cc
with_all old new (a ∷ rest) (t ∷ ts) (m, adds, more) same local =
    let first : rule_and_reach a ≡ (rule_by t, false) = firsts _ _ _ _ same in
    let own : a.global ≡ false = ap (λ (p : Rule × Bool). p.1) first in
    let shape : app_of m ≡ with_rule (app_of old) (rule_by t) = adds.shape own ∙ ap (with_rule (app_of old)) (ap (λ (p : Rule × Bool). p.0) first) in
    with_all m new rest ts more (others _ _ _ _ same) (adds.globals ∙ ap₂ ◌||◌ local own)
    ∙ ap (λ (app : App). ((fold (λ app t. with_rule app (rule_by t)) app ts).top, false)) shape

-- a program to which commands are added in turn
pub with_all_below : {R : Type 0} (told : R → App) (old new : Command) (below : List Command) (rows : List R) → AddsInTurn AddsSubcommand old below new
    → map shape_and_reach below ≡ map (λ r. ((told r).top, false)) rows
    → app_of new ≡ fold (λ app r. with_subcommand app (told r).top) (app_of old) rows
with_all_below told old new [] [] adds same = ap app_of (sym adds)
with_all_below told old new [] (r ∷ rs) adds same = cc
with_all_below told old new (c ∷ cs) [] adds same = cc
with_all_below told old new (c ∷ cs) (r ∷ rs) (m, adds, more) same =
    let first : shape_and_reach c ≡ ((told r).top, false) = firsts _ _ _ _ same in
    let own : (out-Command c).has_globals ≡ false = ap (λ (p : Shape × Bool). p.1) first in
    let shape : app_of m ≡ with_subcommand (app_of old) (told r).top = adds.shape own ∙ ap (with_subcommand (app_of old)) (ap (λ (p : Shape × Bool). p.0) first) in
    with_all_below told m new cs rs more (others _ _ _ _ same)
    ∙ ap (λ (app : App). fold (λ app r. with_subcommand app (told r).top) app rs) shape
