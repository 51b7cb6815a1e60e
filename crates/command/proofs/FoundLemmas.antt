-- What is asked for by what `clap` found.
use Rattle.std.proofs.Common.{◌≡◌, ℕ, Bool, true, false, List, [], ◌∷◌, length, Option, Some, None, Result, Ok, Err, map, option_map, codes, cond, refl, sym, subst, ap, ap₂, inl, inr, Bor}
use Rattle.std.proofs.Common.{arith}
use Rattle.std.proofs.lemmas.Bool.Decides.{nat_tests}
use Rattle.std.specs.Prelude.{◌==◌, unwrap_or, IfOk}
use Rattle.std.specs.Str.{bytes_eq}
use Rattle.clap.specs.Words.{Row, Text, FailsBy, IsAmong, Kinds, fault_of, first_of, kind_of, subcommand_name_of, subcommand_of, subcommand_rows_of}
use Rattle.clap.specs.Faults.{is_simple_and_free}
use Rattle.clap.specs.Simple.{App, HasMatchesOf}
use Rattle.clap.specs.declared.error.Error.{Error}
use Rattle.clap.specs.declared.error.kind.ErrorKind.{ErrorKind}
use Rattle.clap.specs.declared.error.kind.ErrorKind.TheVariants.{OutOfMemory}
use Rattle.clap.specs.declared.parser.matches.ArgMatches.{ArgMatches}
use Rattle.clap.specs.declared.parser.matches.ArgMatches.TheViews.{out-ArgMatches}
use Rattle.command.specs.declared.count.Count.TheVariants.{Workers, Cycles, Binders}
use Rattle.command.specs.declared.asked.Words.{Words}
use Rattle.command.specs.declared.command_line.CommandName.TheVariants.{Run, Explain, Storm, Translate, Live, Version, Check}
use Rattle.command.specs.declared.fault.WordFault.{WordFault}
use Rattle.command.specs.declared.fault.WordFault.TheVariants.{BadWords, NoMemory}
use Rattle.command.specs.Within.{IsWithin}
use Rattle.command.specs.Words.{Asked, SpecSyntax, are_taken, asked_of, command_line, found, is_told, labels_found, meaning, number_found, plan_found, scheduler_found, specs_found, storm, storm_found, translate, translate_found, live, live_found}
use Rattle.command.specs.inside.Words.{Means, found_behind, named}

-- the number of workers and the plugins of a run
pub plan_is : (rows : List Row) (workers : ℕ) (specs : List SpecSyntax) → number_found Workers rows ≡ Some workers
    → specs_found rows ≡ Some specs → plan_found rows ≡ Some (workers, specs)
plan_is rows workers specs first second = rw (first, second) refl

pub no_workers : (rows : List Row) → number_found Workers rows ≡ None → plan_found rows ≡ None
no_workers rows none = rw none refl

-- the numbers of threads, the flag and the plugins of a storm
pub storm_is : (rows : List Row) (cycles binders : ℕ) (is_flaky : Bool) (specs : List SpecSyntax) → number_found Cycles rows ≡ Some cycles
    → number_found Binders rows ≡ Some binders → is_flaky ≡ is_told (first_of (codes "flaky") rows) → specs_found rows ≡ Some specs
    → storm_found rows ≡ Some (storm cycles binders is_flaky specs)
storm_is rows cycles binders is_flaky specs first second flag third =
    rw (first, second, third) (ap (λ b. Some (storm cycles binders b specs)) (sym flag))

pub no_cycles : (rows : List Row) → number_found Cycles rows ≡ None → storm_found rows ≡ None
no_cycles rows none = rw none refl

-- the scheduler and the flags of a translation
pub translate_is : (rows : List Row) (scheduler labels : List ℕ) (by_uid answers : Bool) → scheduler ≡ scheduler_found rows
    → labels ≡ labels_found rows → by_uid ≡ is_told (first_of (codes "by-uid") rows) → answers ≡ is_told (first_of (codes "answers") rows)
    → translate scheduler labels by_uid answers ≡ translate_found rows
translate_is rows scheduler labels by_uid answers first second third fourth = λ i. translate (first i) (second i) (third i) (fourth i)

-- the scheduler, the labels, the workers and the plugins of a cluster
pub live_is : (rows : List Row) (scheduler labels : List ℕ) (plan : ℕ × List SpecSyntax) → scheduler ≡ scheduler_found rows → labels ≡ labels_found rows
    → plan_found rows ≡ Some plan → live_found rows ≡ Some (live scheduler labels plan.0 plan.1)
live_is rows scheduler labels plan first second third = rw third (λ i. Some (live (sym first i) (sym second i) plan.0 plan.1))

-- the texts that stand there, or none
pub texts_or_none : (r : Option (Bor (List (Bor (List ℕ))))) (d : Bor (List (Bor (List ℕ)))) → d.now ≡ []
    → map (λ s. s.now) (unwrap_or r d).now ≡ unwrap_or (option_map (λ s. map (λ v. v.now) s.now) r) []
texts_or_none None d none = ap (map (λ (s : Bor (List ℕ)). s.now)) none
texts_or_none (Some s) d none = refl

-- a command's name, as it stands beside what was found behind it
names_agree : {B : Type 0} (name : B → Text) (rows : B → List Row) (o : Option B)
    → option_map name o ≡ option_map (λ (p : Text × List Row). p.0) (option_map (λ b. (name b, rows b)) o)
names_agree name rows None = refl
names_agree name rows (Some b) = refl

pub name_of_rows : (m : ArgMatches) → subcommand_name_of m ≡ option_map (λ p. p.0) (subcommand_rows_of m)
name_of_rows m = names_agree _ _ (out-ArgMatches m).subcommand

-- a command, by its name and by what was found behind it
pub found_by : (command : Option (Text × List Row)) (name : Text) (rows : List Row) → Some name ≡ option_map (λ p. p.0) command
    → Some rows ≡ option_map (λ p. p.1) command → found command ≡ found (Some (name, rows))
found_by None name rows first second = cc
found_by (Some p) name rows first second =
    let name_is : p.0 ≡ name = ap (λ o. unwrap_or o name) (sym first) in
    let rows_are : p.1 ≡ rows = ap (λ o. unwrap_or o rows) (sym second) in
    ap₂ (λ n r. found (Some (n, r))) name_is rows_are

-- what seven cases come to is what comes of the case
of_seven : {A B : Type 0} (f : A → B) (a b c d e g h : A) (is_a is_b is_c is_d is_e is_g : Bool)
    → cond is_a (f a) (cond is_b (f b) (cond is_c (f c) (cond is_d (f d) (cond is_e (f e) (cond is_g (f g) (f h))))))
    ≡ f (cond is_a a (cond is_b b (cond is_c c (cond is_d d (cond is_e e (cond is_g g h))))))
of_seven f a b c d e g h true is_b is_c is_d is_e is_g = refl
of_seven f a b c d e g h false true is_c is_d is_e is_g = refl
of_seven f a b c d e g h false false true is_d is_e is_g = refl
of_seven f a b c d e g h false false false true is_e is_g = refl
of_seven f a b c d e g h false false false false true is_g = refl
of_seven f a b c d e g h false false false false false true = refl
of_seven f a b c d e g h false false false false false false = refl

-- a command, by which one it is
pub by_name : (name : Text) (rows : List Row) → found (Some (name, rows)) ≡ found_behind (named name) rows
by_name name rows =
    of_seven (λ n. found_behind n rows) Run Explain Storm Translate Live Version Check (bytes_eq name (codes "run")) (bytes_eq name (codes "explain"))
    (bytes_eq name (codes "storm")) (bytes_eq name (codes "translate")) (bytes_eq name (codes "live")) (bytes_eq name (codes "version"))

-- what is meant: where words were read, and where they are bad
pub means_ok : (meant : Option Asked) (read : Result Words WordFault) → Means meant read → IfOk read (λ words. meant ≡ Some (asked_of words))
unfolding Means
means_ok meant (Ok words) means = means.0
means_ok meant (Err BadWords) means = tt
means_ok meant (Err NoMemory) means = tt

pub means_within : (meant : Option Asked) (read : Result Words WordFault) → Means meant read → IfOk read IsWithin
unfolding Means
means_within meant (Ok words) means = means.1
means_within meant (Err BadWords) means = tt
means_within meant (Err NoMemory) means = tt

pub means_refused : (meant : Option Asked) (read : Result Words WordFault) → Means meant read → read ≡ Err BadWords → meant ≡ None
unfolding Means
means_refused meant (Ok words) means is = cc
means_refused meant (Err BadWords) means is = means
means_refused meant (Err NoMemory) means is = cc

-- what words ask for that are taken, and that aren't
pub meaning_taken : (words : List Text) → are_taken words ≡ true → meaning words ≡ found (subcommand_of command_line words)
unfolding meaning
meaning_taken words e = ap (λ b. cond b (found (subcommand_of command_line words)) None) e

pub meaning_refused : (words : List Text) → are_taken words ≡ false → meaning words ≡ None
unfolding meaning
meaning_refused words e = ap (λ b. cond b (found (subcommand_of command_line words)) None) e

-- what `clap` says of the words that it takes, and of those that it doesn't
is_known : (app : App) (P : App → Type 0) → app ≡ command_line → (is_simple_and_free app ≡ true → P app) → P command_line
is_known app P is holds = let Q : App → Type 0 = λ a. is_simple_and_free a ≡ true → P a in subst Q is holds refl

pub taken : {T : Type 0} (app : App) (words : List Text) (read : Result T Error) (matches : T) → app ≡ command_line
    → (is_simple_and_free app ≡ true → FailsBy (fault_of app words) read) → read ≡ Ok matches → are_taken words ≡ true
taken app words read matches is fails was =
    let none : FailsBy (fault_of command_line words) (Ok matches) =
    (let P : Result _ Error → Type 0 = λ r. FailsBy (fault_of command_line words) r in subst P was (is_known app (λ a. FailsBy (fault_of a words) read) is fails)) in
    ap (λ (kinds : Kinds). length kinds == 0) none

some_kind : (k : ErrorKind) (kinds : Kinds) → IsAmong k kinds → (length kinds == 0) ≡ false
some_kind k [] among = absurd among
some_kind k (x ∷ kinds) among = grind (arith, nat_tests)

pub refused : {T : Type 0} (app : App) (words : List Text) (read : Result T Error) (error : Error) → app ≡ command_line
    → (is_simple_and_free app ≡ true → FailsBy (fault_of app words) read) → read ≡ Err error → (kind_of error ≡ OutOfMemory → ⊥) → are_taken words ≡ false
refused app words read error is fails was other =
    let P : Result _ Error → Type 0 = λ r. FailsBy (fault_of command_line words) r in
    elim (subst P was (is_known app (λ a. FailsBy (fault_of a words) read) is fails)) [
      | inl none ↦ absurd (other none)
      | inr among ↦ some_kind (kind_of error) (fault_of command_line words) among
    ]

pub found_rows : (app : App) (words : List Text) (matches : ArgMatches) → app ≡ command_line → HasMatchesOf app words matches
    → subcommand_rows_of matches ≡ subcommand_of command_line words
found_rows app words matches is has = let P : App → Type 0 = λ a. HasMatchesOf a words matches in (subst P is has refl).1
