-- How far a script is read: which of its steps are there, and which lines are left.
use Rattle.std.proofs.Common.{◌≡◌, ◌≢◌, ℕ, ◌+◌, ◌<◌, List, [], ◌++◌, length, Option, Some, None, IfSome, refl, sym, ap, subst, ◌∙◌, append_assoc}
use Rattle.std.proofs.lemmas.List.{append-nil, length-map}
use Rattle.std.proofs.lemmas.List.Elements.{All-append, All-same}
use Rattle.std.specs.Option.{option_map}
use Rattle.std.specs.Prelude.{MatchOption}
use Rattle.std.specs.List.{All}
use Rattle.manifest.specs.declared.fault.LineFault.{LineFault}
use Rattle.manifest.specs.declared.fault.LineFault.TheVariants.{NoMemory}
use Rattle.desk.specs.Caller.{IsTimely}
use Rattle.std.specs.Io.KnownBytes.{Consumes, IsAtEnd, prepend_known}
use Rattle.desk.specs.declared.step.Step.{Step}
use Rattle.streams.specs.Lines.{lines_of}
use Rattle.streams.proofs.Taking.{lines_of-nil}
use Rattle.streams.specs.Script.{asked_in, fault_from}
use Rattle.watch_script.specs.Script.{watched, script_steps, first_storm_fault}
use Rattle.watch_script.specs.declared.batch.Faulty.{Faulty}
use Rattle.watch_script.specs.inside.Lines.{AreSteps, IsFaulty, AreRead, TakesLines, kept}
use Rattle.watch_script.proofs.Batches.{further, fault_both, fault_front, asked_both, asked_kept, fault_kept, from_number}

-- Of a known script this rest is left; the lines before it asked for these steps, and the rest
-- begins with the line of this number.
pub record IsRead (script rest : List ℕ) (steps : List Step) (number : ℕ) : Type 0 where
  pub cut : asked_in watched (lines_of script) ≡ steps ++ asked_in watched (lines_of rest)
  pub faults : fault_from watched number (lines_of rest) ≡ fault_from watched 1 (lines_of script)

abbrev pub IsReading : Option (List ℕ) → Option (List ℕ) → List Step → ℕ → Type 0
IsReading None rest steps number = Unit {0}
IsReading (Some script) None steps number = ⊥
IsReading (Some script) (Some rest) steps number = IsRead script rest steps number

-- nothing is read yet
begin : (script : Option (List ℕ)) → IsReading script (prepend_known [] script) [] 1
begin None = tt
begin (Some script) = record { cut = refl; faults = refl }

pub reading-begin : (script : Option (List ℕ)) (reader : List ℕ) (steps : List Step) → reader ≡ [] → steps ≡ [] → IsReading script (prepend_known reader script) steps 1
reading-begin script reader steps none nothing = rw (none, nothing) (begin script)

-- lines of which none is faulty ask for steps, and are counted
pub reading-more : (script rest later : Option (List ℕ)) (lines : List (List ℕ)) (steps more new : List Step) (number : ℕ) → TakesLines rest later lines → AreSteps lines more → new ≡ steps ++ more → IsReading script rest steps number → IsReading script later new (number + length lines)
reading-more None rest later lines steps more new number took are grown so_far = tt
reading-more (Some script) None later lines steps more new number took are grown so_far = absurd so_far
reading-more (Some script) (Some rest) None lines steps more new number took are grown so_far = absurd took
reading-more (Some script) (Some rest) (Some later) lines steps more new number took are grown so_far =
    let texts = took.0 in
    let many : length texts ≡ length lines = sym (ap length took.1 ∙ length-map texts kept) in
    let none : fault_from watched 0 texts ≡ None = sym (fault_kept watched 0 texts) ∙ ap (fault_from watched 0) (sym took.1) ∙ are.none_faulty in
    let none_here : fault_from watched number texts ≡ None = from_number number texts ∙ ap (option_map (further watched number)) none in
    let asked : more ≡ asked_in watched texts = are.asked ∙ ap (asked_in watched) took.1 ∙ asked_kept watched texts in
    record {
      cut = so_far.cut ∙ ap (λ t. steps ++ asked_in watched t) took.2 ∙ ap (λ t. steps ++ t) (asked_both watched 0 texts (lines_of later) none)
          ∙ sym (append_assoc steps (asked_in watched texts) (asked_in watched (lines_of later))) ∙ ap (λ t. t ++ asked_in watched (lines_of later)) (ap (λ t. steps ++ t) (sym asked) ∙ sym grown);
      faults = ap (λ (k : ℕ). fault_from watched (number + k) (lines_of later)) (sym many) ∙ sym (ap (fault_from watched number) took.2 ∙ fault_both watched number texts (lines_of later) none_here) ∙ so_far.faults;
    }

-- the first faulty one of these lines is the script's
pub reading-fault : (script rest later : Option (List ℕ)) (lines : List (List ℕ)) (steps : List Step) (number : ℕ) (f : Faulty) → TakesLines rest later lines → fault_from watched 0 lines ≡ Some (f.before, f.fault) → IsReading script rest steps number
    → IfSome script (λ text. first_storm_fault text ≡ Some (number + f.before, f.fault))
unfolding first_storm_fault
reading-fault None rest later lines steps number f took is so_far = tt
reading-fault (Some script) None later lines steps number f took is so_far = absurd so_far
reading-fault (Some script) (Some rest) None lines steps number f took is so_far = absurd took
reading-fault (Some script) (Some rest) (Some later) lines steps number f took is so_far =
    let texts = took.0 in
    let first : fault_from watched 0 texts ≡ Some (f.before, f.fault) = sym (fault_kept watched 0 texts) ∙ ap (fault_from watched 0) (sym took.1) ∙ is in
    let here : fault_from watched number texts ≡ Some (number + f.before, f.fault) = from_number number texts ∙ ap (option_map (further watched number)) first in
    sym so_far.faults ∙ ap (fault_from watched number) took.2 ∙ fault_front watched number texts (lines_of later) (number + f.before, f.fault) here

-- the same of lines that were read
pub read-more : (script rest later : Option (List ℕ)) (lines : List (List ℕ)) (steps more new : List Step) (fault : Option Faulty) (number next : ℕ) → AreRead lines more fault → fault ≡ None → TakesLines rest later lines → new ≡ steps ++ more → next ≡ number + length lines
    → IsReading script rest steps number → IsReading script later new next
read-more script rest later lines steps more new fault number next read none took grown counted so_far =
    subst (λ (n : ℕ). IsReading script later new n) (sym counted)
    (reading-more script rest later lines steps more new number took (subst (λ o. MatchOption o (AreSteps lines more) (IsFaulty lines)) none read.read) grown so_far)

pub read-fault : (script rest later : Option (List ℕ)) (lines : List (List ℕ)) (steps more : List Step) (fault : Option Faulty) (f : Faulty) (number at : ℕ) (why : LineFault) → AreRead lines more fault → fault ≡ Some f → TakesLines rest later lines
    → f.fault ≢ NoMemory → at ≡ number + f.before → why ≡ f.fault → IsReading script rest steps number → IfSome script (λ text. first_storm_fault text ≡ Some (at, why))
read-fault script rest later lines steps more fault f number at why read some took other there is so_far =
    let faulty = subst (λ o. MatchOption o (AreSteps lines more) (IsFaulty lines)) some read.read in
    subst (λ (n : ℕ). IfSome script (λ text. first_storm_fault text ≡ Some (n, why))) (sym there)
    (subst (λ (w : LineFault). IfSome script (λ text. first_storm_fault text ≡ Some (number + f.before, w))) (sym is) (reading-fault script rest later lines steps number f took (faulty.first other) so_far))

-- which is one of these
pub read-there : (lines : List (List ℕ)) (steps : List Step) (fault : Option Faulty) (f : Faulty) → AreRead lines steps fault → fault ≡ Some f → f.before < length lines
read-there lines steps fault f read some = (subst (λ o. MatchOption o (AreSteps lines steps) (IsFaulty lines)) some read.read).there

pub read-timely : (lines : List (List ℕ)) (steps more new : List Step) (fault : Option Faulty) → AreRead lines more fault → new ≡ steps ++ more → All IsTimely steps → All IsTimely new
read-timely lines steps more new fault read grown timely = All-same IsTimely new (steps ++ more) grown (All-append IsTimely steps more timely read.timely)

-- all of the script is read
pub reading-end : (script rest left : Option (List ℕ)) (reader : List ℕ) (steps : List Step) (number : ℕ) → (reader ≡ []) × IsAtEnd left × Consumes rest (prepend_known reader left) [] → IsReading script rest steps number
    → IfSome script (λ text. (first_storm_fault text ≡ None) × (steps ≡ script_steps text) × (left ≡ Some []))
unfolding first_storm_fault script_steps
reading-end None rest left reader steps number ended so_far = tt
reading-end (Some script) None left reader steps number ended so_far = absurd so_far
reading-end (Some script) (Some rest) None reader steps number ended so_far = absurd ended.2
reading-end (Some script) (Some rest) (Some left) reader steps number ended so_far =
    let no_byte : rest ≡ [] = ended.2 ∙ ap (λ t. t ++ left) ended.0 ∙ ended.1 in
    let none : lines_of rest ≡ [] = ap lines_of no_byte ∙ lines_of-nil in (
      sym so_far.faults ∙ ap (fault_from watched number) none,
      sym (so_far.cut ∙ ap (λ t. steps ++ asked_in watched t) none ∙ append-nil steps),
      ap Some ended.1,
    )
