-- Lines that are read in parts, and then as a whole.
use Rattle.std.proofs.Common.{◌≡◌, ◌≢◌, ℕ, suc, ◌+◌, ◌<◌, ◌≤◌, List, [], ◌∷◌, ◌++◌, map, length, take, drop, get_or, Option, Some, None, Result, Ok, Err, refl, sym, ap, subst, ◌∙◌, arith, append_assoc}
use Rattle.std.specs.Prelude.{MatchOption, IfSome, option_to_list}
use Rattle.std.specs.List.{All}
use Rattle.std.specs.Option.{option_map}
use Rattle.std.proofs.lemmas.List.Elements.{All-nil, All-push, All-append, All-same}
use Rattle.std.proofs.Math.Seq.{take-suc}
use Rattle.std.proofs.lemmas.List.{map-append, length-append, length-map, length-take, take-append-drop, take_all}
use Rattle.manifest.specs.declared.command.Command.{Command}
use Rattle.manifest.specs.declared.fault.LineFault.{LineFault}
use Rattle.manifest.specs.declared.fault.LineFault.TheVariants as faults
use Rattle.manifest.specs.Reading.{Fails}
use Rattle.desk.specs.Caller.{IsTimely}
use Rattle.desk.specs.declared.step.Step.{Step}
use Rattle.streams.specs.Lines.{lines_of, TakesLine}
use Rattle.streams.specs.Script.{asked_by, asked_then, asked_in, fault_or, fault_from}
use Rattle.streams.proofs.Asked.{asked_by-kept}
use Rattle.watch_script.specs.Script.{watched}
use Rattle.watch_script.specs.declared.batch.Faulty.{Faulty}
use Rattle.watch_script.specs.inside.Lines.{AreSteps, IsFaulty, AreRead, TakesLines, kept}

module _ {A : Type 0} (taken : Command → Result A LineFault) where
  -- a fault, its line counted from so much further on
  abbrev pub further : ℕ → ℕ × LineFault → ℕ × LineFault
  further n p = (n + p.0, p.1)

  -- a later first line moves the fault's number
  shifted : (n m : ℕ) (lines : List (List ℕ)) → fault_from taken (n + m) lines ≡ option_map (further n) (fault_from taken m lines)
  shifted n m [] = refl
  shifted n m (line ∷ lines) = by (let e : n + m + 1 ≡ n + (m + 1) = omega arith in ap (λ (k : ℕ). fault_from taken k lines) e ∙ shifted n (m + 1) lines) (asked_by taken line)
    where
      by : fault_from taken (n + m + 1) lines ≡ option_map (further n) (fault_from taken (m + 1) lines) → (r : Result (Option A) LineFault) → fault_or (n + m) r (fault_from taken (n + m + 1) lines) ≡ option_map (further n) (fault_or m r (fault_from taken (m + 1) lines))
      by next (Ok asked) = next
      by next (Err fault) = refl

  -- what more lines tell behind lines without a fault
  pub fault_both : (n : ℕ) (a b : List (List ℕ)) → fault_from taken n a ≡ None → fault_from taken n (a ++ b) ≡ fault_from taken (n + length a) b
  fault_both n [] b none = let e : n ≡ n + 0 = omega arith in ap (λ (k : ℕ). fault_from taken k b) e
  fault_both n (line ∷ a) b none = by (λ h. fault_both (n + 1) a b h) (asked_by taken line) none
    where
      by : (fault_from taken (n + 1) a ≡ None → fault_from taken (n + 1) (a ++ b) ≡ fault_from taken (n + 1 + length a) b) → (r : Result (Option A) LineFault) → fault_or n r (fault_from taken (n + 1) a) ≡ None → fault_or n r (fault_from taken (n + 1) (a ++ b)) ≡ fault_from taken (n + suc (length a)) b
      by later (Ok asked) h = let e : n + 1 + length a ≡ n + suc (length a) = omega arith in later h ∙ ap (λ (k : ℕ). fault_from taken k b) e
      by later (Err fault) h = absurd (let e : Some (n, fault) ≡ None = h in cc)

  -- the first fault stays the first before more lines
  pub fault_front : (n : ℕ) (a b : List (List ℕ)) (found : ℕ × LineFault) → fault_from taken n a ≡ Some found → fault_from taken n (a ++ b) ≡ Some found
  fault_front n [] b found is = absurd (let e : None ≡ Some found = is in cc)
  fault_front n (line ∷ a) b found is = by (λ h. fault_front (n + 1) a b found h) (asked_by taken line) is
    where
      by : (fault_from taken (n + 1) a ≡ Some found → fault_from taken (n + 1) (a ++ b) ≡ Some found) → (r : Result (Option A) LineFault) → fault_or n r (fault_from taken (n + 1) a) ≡ Some found → fault_or n r (fault_from taken (n + 1) (a ++ b)) ≡ Some found
      by later (Ok asked) h = later h
      by later (Err fault) h = h

  -- what lines without a fault ask for, and then what more lines do
  pub asked_both : (n : ℕ) (a b : List (List ℕ)) → fault_from taken n a ≡ None → asked_in taken (a ++ b) ≡ asked_in taken a ++ asked_in taken b
  asked_both n [] b none = refl
  asked_both n (line ∷ a) b none = by (λ h. asked_both (n + 1) a b h) (asked_by taken line) none
    where
      by : (fault_from taken (n + 1) a ≡ None → asked_in taken (a ++ b) ≡ asked_in taken a ++ asked_in taken b) → (r : Result (Option A) LineFault) → fault_or n r (fault_from taken (n + 1) a) ≡ None → asked_then r (asked_in taken (a ++ b)) ≡ asked_then r (asked_in taken a) ++ asked_in taken b
      by later (Ok None) h = later h
      by later (Ok (Some asked)) h = ap (λ t. asked ∷ t) (later h)
      by later (Err fault) h = absurd (let e : Some (n, fault) ≡ None = h in cc)

  -- what is kept of lines asks for what the lines ask for
  pub asked_kept : (texts : List (List ℕ)) → asked_in taken (map kept texts) ≡ asked_in taken texts
  asked_kept [] = refl
  asked_kept (text ∷ texts) = ap (λ r. asked_then r (asked_in taken (map kept texts))) (asked_by-kept taken text) ∙ ap (λ t. asked_then (asked_by taken text) t) (asked_kept texts)

  pub fault_kept : (n : ℕ) (texts : List (List ℕ)) → fault_from taken n (map kept texts) ≡ fault_from taken n texts
  fault_kept n [] = refl
  fault_kept n (text ∷ texts) = ap (λ r. fault_or n r (fault_from taken (n + 1) (map kept texts))) (asked_by-kept taken text) ∙ ap (λ t. fault_or n (asked_by taken text) t) (fault_kept (n + 1) texts)

-- ---- parts of a storm's lines

-- what lines tell from wherever they are counted
pub from_number : (n : ℕ) (lines : List (List ℕ)) → fault_from watched n lines ≡ option_map (further watched n) (fault_from watched 0 lines)
from_number n lines = let e : n ≡ n + 0 = omega arith in ap (λ (k : ℕ). fault_from watched k lines) e ∙ shifted watched n 0 lines

-- what more lines tell behind those without a fault
behind : (a b : List (List ℕ)) → fault_from watched 0 a ≡ None → fault_from watched 0 (a ++ b) ≡ option_map (further watched (length a)) (fault_from watched 0 b)
behind a b none = let e : 0 + length a ≡ length a = omega arith in fault_both watched 0 a b none ∙ ap (λ (k : ℕ). fault_from watched k b) e ∙ from_number (length a) b

pub steps_both : (a b : List (List ℕ)) (s t : List Step) → AreSteps a s → AreSteps b t → AreSteps (a ++ b) (s ++ t)
steps_both a b s t one other = record {
  none_faulty = behind a b one.none_faulty ∙ ap (option_map (further watched (length a))) other.none_faulty;
  asked = ap (λ x. x ++ t) one.asked ∙ ap (λ x. asked_in watched a ++ x) other.asked ∙ sym (asked_both watched 0 a b one.none_faulty);
}

pub faulty_front : (a b : List (List ℕ)) (f : Faulty) → IsFaulty a f → IsFaulty (a ++ b) f
faulty_front a b f is = record {
  there = omega (arith, is.there, length-append a b);
  first = λ other. fault_front watched 0 a b (f.before, f.fault) (is.first other);
}

pub faulty_back : (a b : List (List ℕ)) (s : List Step) (f : Faulty) → AreSteps a s → IsFaulty b f → IsFaulty (a ++ b) (record { before = length a + f.before; fault = f.fault })
faulty_back a b s f one is = record {
  there = omega (arith, is.there, length-append a b);
  first = λ other. behind a b one.none_faulty ∙ ap (option_map (further watched (length a))) (is.first other);
}

-- ---- one line

pub asked_line : (line : List ℕ) (asked : Option Step) → asked_by watched line ≡ Ok asked → AreSteps (line ∷ []) (option_to_list asked)
asked_line line None says = record { none_faulty = ap (λ r. fault_or 0 r None) says; asked = sym (ap (λ r. asked_then r []) says) }
asked_line line (Some step) says = record { none_faulty = ap (λ r. fault_or 0 r None) says; asked = sym (ap (λ r. asked_then r []) says) }

pub asked_timely : (asked : Option Step) → IfSome asked IsTimely → All IsTimely (option_to_list asked)
asked_timely None timely = All-nil IsTimely
asked_timely (Some step) timely = All-push IsTimely [] step (All-nil IsTimely) timely

told_fault : (fault : LineFault) (meaning : Result (Option Step) LineFault) → Fails fault meaning → fault ≢ faults.NoMemory → meaning ≡ Err fault
told_fault faults.NoMemory meaning fails other = absurd (other refl)
told_fault faults.NotJson meaning fails other = fails
told_fault (faults.BadField field) meaning fails other = fails
told_fault (faults.Quantity field) meaning fails other = fails
told_fault (faults.OverLimit field) meaning fails other = fails

pub faulty_line : (line : List ℕ) (fault : LineFault) → Fails fault (asked_by watched line) → IsFaulty (line ∷ []) (record { before = 0; fault = fault })
faulty_line line fault fails = record {
  there = omega arith;
  first = λ other. ap (λ r. fault_or 0 r None) (told_fault fault (asked_by watched line) fails other);
}

-- ---- one line more of a list

pub texts_more : {V : Type 0} (text : V → List ℕ) (lines : List V) (k : ℕ) (d : V) → k < length lines → map text (take (suc k) lines) ≡ map text (take k lines) ++ text (get_or lines k d) ∷ []
texts_more text lines k d lt = ap (map text) (take-suc lines k d lt) ∙ map-append text (take k lines) (get_or lines k d ∷ [])

-- the list by its first ones and the others
texts_cut : {V : Type 0} (text : V → List ℕ) (lines : List V) (k : ℕ) → map text lines ≡ map text (take k lines) ++ map text (drop k lines)
texts_cut text lines k = ap (map text) (sym (take-append-drop k lines)) ∙ map-append text (take k lines) (drop k lines)

first_many : {V : Type 0} (text : V → List ℕ) (lines : List V) (k : ℕ) → k < length lines → length (map text (take k lines)) ≡ k
first_many text lines k lt = length-map (take k lines) text ∙ omega (arith, length-take k lines)

module _ {V : Type 0} (text : V → List ℕ) (lines : List V) (k : ℕ) (x : V) (steps : List Step) (lt : k < length lines) (is : x ≡ get_or lines k x) (so_far : AreSteps (map text (take k lines)) steps) where
  more_texts : map text (take (k + 1) lines) ≡ map text (take k lines) ++ text x ∷ []
  more_texts =
      let next : k + 1 ≡ suc k = omega arith in
      ap (λ (n : ℕ). map text (take n lines)) next ∙ texts_more text lines k x lt ∙ ap (λ (y : V). map text (take k lines) ++ text y ∷ []) (sym is)

  -- one line more
  pub one_more_line : (more new : List Step) → AreSteps (text x ∷ []) more → new ≡ steps ++ more → AreSteps (map text (take (k + 1) lines)) new
  one_more_line more new are grown =
      subst (λ (t : List (List ℕ)). AreSteps t new) (sym more_texts) (subst (λ (s : List Step). AreSteps (map text (take k lines) ++ text x ∷ []) s) (sym grown) (steps_both (map text (take k lines)) (text x ∷ []) steps more so_far are))

  -- which is faulty
  pub faulty_at : (fault : LineFault) → Fails fault (asked_by watched (text x)) → IsFaulty (map text lines) (record { before = k; fault = fault })
  faulty_at fault fails =
      let front = map text (take k lines) in
      let there : length front + 0 ≡ k = omega (arith, first_many text lines k lt) in
      let here : IsFaulty (front ++ text x ∷ []) (record { before = length front + 0; fault = fault }) = faulty_back front (text x ∷ []) steps (record { before = 0; fault = fault }) so_far (faulty_line (text x) fault fails) in
      let moved : IsFaulty (map text (take (k + 1) lines)) (record { before = k; fault = fault }) =
      subst (λ (t : List (List ℕ)). IsFaulty t (record { before = k; fault = fault })) (sym more_texts) (subst (λ (n : ℕ). IsFaulty (front ++ text x ∷ []) (record { before = n; fault = fault })) there here) in
      subst (λ (t : List (List ℕ)). IsFaulty t (record { before = k; fault = fault })) (sym (texts_cut text lines (k + 1))) (faulty_front (map text (take (k + 1) lines)) (map text (drop (k + 1) lines)) (record { before = k; fault = fault }) moved)

-- the line behind so many has a step for which there was no memory
pub read_no_memory : {V : Type 0} (text : V → List ℕ) (lines : List V) (before : ℕ) (steps : List Step) → before < length lines → All IsTimely steps → AreRead (map text lines) steps (Some (record { before = before; fault = faults.NoMemory }))
read_no_memory text lines before steps lt timely = record {
  timely = timely;
  read = record { there = omega (arith, length-map lines text); first = λ other. absurd (other refl) };
}

-- every line was read
pub read_all : {V : Type 0} (text : V → List ℕ) (lines : List V) (k : ℕ) (steps : List Step) → length lines ≤ k → AreSteps (map text (take k lines)) steps → All IsTimely steps → AreRead (map text lines) steps None
read_all text lines k steps all so_far timely = record { timely = timely; read = subst (λ t. AreSteps (map text t) steps) (take_all k lines all) so_far }

-- ---- two parts

module _ {V : Type 0} (text : V → List ℕ) (lines : List V) (mid : ℕ) (s : List Step) (fault : Option Faulty) (one : AreRead (map text (take mid lines)) s fault) where
  abbrev front : List (List ℕ)
  front = map text (take mid lines)

  abbrev back : List (List ℕ)
  back = map text (drop mid lines)

  -- the first part has a fault
  pub first_faulty : (f : Faulty) → fault ≡ Some f → AreRead (map text lines) s (Some f)
  first_faulty f is = record {
    timely = one.timely;
    read = subst (λ (t : List (List ℕ)). IsFaulty t f) (sym (texts_cut text lines mid)) (faulty_front front back f (subst (λ o. MatchOption o (AreSteps front s) (IsFaulty front)) is one.read));
  }

  module _ (t : List Step) (other_fault : Option Faulty) (other : AreRead (map text (drop mid lines)) t other_fault) (none : fault ≡ None) where
    abbrev fine : AreSteps front s
    fine = subst (λ o. MatchOption o (AreSteps front s) (IsFaulty front)) none one.read

    -- the second has
    pub second_faulty : mid < length lines → (f : Faulty) → other_fault ≡ Some f → AreRead (map text lines) s (Some (record { before = mid + f.before; fault = f.fault }))
    second_faulty lt f is = record {
      timely = one.timely;
      read =
          let there : length front ≡ mid = first_many text lines mid lt in
          subst (λ (x : List (List ℕ)). IsFaulty x (record { before = mid + f.before; fault = f.fault })) (sym (texts_cut text lines mid))
          (subst (λ (n : ℕ). IsFaulty (front ++ back) (record { before = n + f.before; fault = f.fault })) there
          (faulty_back front back s f fine (subst (λ o. MatchOption o (AreSteps back t) (IsFaulty back)) is other.read)));
    }

    -- neither has
    pub both_read : (new : List Step) → other_fault ≡ None → new ≡ s ++ t → AreRead (map text lines) new None
    both_read new is grown = record {
      timely = All-same IsTimely new (s ++ t) grown (All-append IsTimely s t one.timely other.timely);
      read =
          subst (λ (x : List (List ℕ)). AreSteps x new) (sym (texts_cut text lines mid))
          (subst (λ (x : List Step). AreSteps (front ++ back) x) (sym grown) (steps_both front back s t fine (subst (λ o. MatchOption o (AreSteps back t) (IsFaulty back)) is other.read)));
    }

-- ---- lines that are taken off a source

pub one_taken : (old between new : Option (List ℕ)) (lines : List (List ℕ)) (line : List ℕ) → TakesLines old between lines → TakesLine between new line → TakesLines old new (lines ++ line ∷ [])
one_taken None between new lines line so_far took = tt
one_taken (Some old) None new lines line so_far took = absurd so_far
one_taken (Some old) (Some between) None lines line so_far took = absurd took
one_taken (Some old) (Some between) (Some new) lines line so_far took = (
  so_far.0 ++ took.0 ∷ [],
  ap (λ t. t ++ line ∷ []) so_far.1 ∙ ap (λ (x : List ℕ). map kept so_far.0 ++ x ∷ []) took.1 ∙ sym (map-append kept so_far.0 (took.0 ∷ [])),
  so_far.2 ∙ ap (λ t. so_far.0 ++ t) took.2 ∙ sym (append_assoc so_far.0 (took.0 ∷ []) (lines_of new)),
)
