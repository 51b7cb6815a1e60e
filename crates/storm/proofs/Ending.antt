-- From what the workers of a storm did to what a storm promises.
use Rattle.std.proofs.Common.{◌≡◌, ◌≢◌, ℕ, ◌+◌, ◌<◌, ◌↔◌, Bool, List, [], ◌∷◌, length, Result, Ok, Err, IfOk, IfErr, IfSome, OnErr, Some, ◌⊎◌, inl, inr, refl, sym, subst, ◌∙◌, arith}
use Rattle.std.specs.Bool.{IsTrue}
use Rattle.std.specs.Io.KnownBytes.{Appends}
use Rattle.manifest.specs.declared.fault.LineFault.{LineFault}
use Rattle.book.specs.Cluster.{Cluster}
use Rattle.desk.specs.declared.step.Step.{Step}
use Rattle.desk.specs.declared.step.Counts.{Counts}
use Rattle.desk.specs.History.{Call}
use Rattle.desk.specs.Shared.{Pass, Desk, Closed}
use Rattle.desk.specs.Shown.{Shown}
use Rattle.rules.specs.RuleSet.{RuleSet}
use Rattle.choose.specs.Kits.{rules_of}
use Rattle.audit.specs.Audit.{ShowsSums}
use Rattle.streams.specs.declared.fault.RunFault.{RunFault}
use Rattle.streams.specs.declared.fault.RunFault.TheVariants.{Line, NoMemory, Read, Write, NoPlace}
use Rattle.streams.specs.Device.{DeviceUse, AppendsFront}
use Rattle.crew.specs.declared.worker.Worker.{Worker}
use Rattle.crew.specs.Made.{BeginsWith, newcomer}
use Rattle.crew.specs.Crew.{enlisted}
use Rattle.watch_script.specs.Script.{first_storm_fault}
use Rattle.storm.specs.Storm.{IsStorm, IsAudit, Storms, AreOfScript, IsStormRun, desk_for, storm_text}
use Rattle.storm.specs.inside.Ending.{IsWorked, HasEnded, IsClosedAndTold, IsStormOf}
use Rattle.crew.proofs.Going.{begins_trans, goes_begins}
use Rattle.storm.proofs.Closing.{closing, closing_looked}
use Rattle.crew.proofs.Enlisting.{enlisted_length}

-- ---- the dump

-- how many passes there are before the one that counts
abbrev many : {D B : Type 0} → List D → List B → ℕ
many deciders binders = 2 + length deciders + length binders

module _ {J D B Kit : Type 0} (answers : Kit → RuleSet) (kits : D → List Kit) (fed : List Step) (deciders : List D) (binders : List B) (counts : Counts) (rows : List Shown) (clerk' : Pass) where
  -- workers that were just enlisted worked, and were dumped
  begun : 0 < length deciders → IsWorked {J = J} answers kits (desk_for (length deciders) (length binders)) fed (newcomer (many deciders binders)) (enlisted 0 (tt ∷ tt ∷ [])) (enlisted 2 deciders) (enlisted (2 + length deciders) binders) counts rows clerk'
      → HasEnded (λ d. rules_of answers (kits d)) deciders (length binders) (desk_for (length deciders) (length binders)) fed counts rows clerk'
  begun some w =
      let turned : 0 < length w.cyclers' = subst (λ n. 0 < n) (sym (w.turned.0 ∙ enlisted_length J 2 deciders)) some in
      let idle = λ (d : Worker J D). w.idle d (w.all_turned 0 d turned) in
      record {
        desk_is = refl;
        storm = closing answers kits fed deciders binders counts rows w.feeders' w.cyclers' w.reporters' clerk' some w.told w.all_told w.turned w.all_turned idle w.reported w.dumped;
        of = omega (arith, w.dumped.number);
        knows = subst (BeginsWith clerk'.seen) (sym (closing_looked answers kits fed deciders binders counts rows w.feeders' w.cyclers' w.reporters' clerk' some w.told w.all_told w.turned w.all_turned idle w.reported w.dumped)) w.dumped.knows;
      }

  -- the same of all that is equal to them
  pub ended : (desk : Desk) (clerk : Pass) (f : List (Worker J (Unit {0}))) (c : List (Worker J D)) (r : List (Worker J B)) → 0 < length deciders
      → desk ≡ desk_for (length deciders) (length binders) → clerk ≡ newcomer (many deciders binders) → f ≡ enlisted 0 (tt ∷ tt ∷ []) → c ≡ enlisted 2 deciders → r ≡ enlisted (2 + length deciders) binders
      → IsWorked {J = J} answers kits desk fed clerk f c r counts rows clerk' → HasEnded (λ d. rules_of answers (kits d)) deciders (length binders) desk fed counts rows clerk'
  ended desk clerk f c r some desk_is clerk_is f_is c_is r_is w =
      let w1 = subst (λ x. IsWorked {J = J} answers kits desk fed clerk f c x counts rows clerk') r_is w in
      let w2 = subst (λ x. IsWorked {J = J} answers kits desk fed clerk f x (enlisted (2 + length deciders) binders) counts rows clerk') c_is w1 in
      let w3 = subst (λ x. IsWorked {J = J} answers kits desk fed clerk x (enlisted 2 deciders) (enlisted (2 + length deciders) binders) counts rows clerk') f_is w2 in
      let w4 = subst (λ x. IsWorked {J = J} answers kits desk fed x (enlisted 0 (tt ∷ tt ∷ [])) (enlisted 2 deciders) (enlisted (2 + length deciders) binders) counts rows clerk') clerk_is w3 in
      let w5 = subst (λ x. IsWorked {J = J} answers kits x fed (newcomer (many deciders binders)) (enlisted 0 (tt ∷ tt ∷ [])) (enlisted 2 deciders) (enlisted (2 + length deciders) binders) counts rows clerk') desk_is w4 in
      subst (λ x. HasEnded (λ d. rules_of answers (kits d)) deciders (length binders) x fed counts rows clerk') (sym desk_is) (begun some w5)

-- ---- the audit

-- the answer to an audit of the book of a desk that was closed by a pass which knew what was looked
-- at
audited : (desk : Desk) (clerk last : Pass) (book : Cluster) (looked : List Call) (rows : List Shown) (answer : Bool) → BeginsWith clerk.seen looked → Closed desk clerk last book
    → (IsTrue answer ↔ ShowsSums rows book.places) → IsAudit desk looked rows answer
audited desk clerk last book looked rows answer knows closed says = record {
  closed = closed.list;
  legal = closed.ahead.legal;
  looked_first = begins_trans closed.list clerk.seen looked (goes_begins clerk.caller.number clerk.seen closed.list closed.ahead.goes_on) knows;
  says = subst (λ (b : Cluster). IsTrue answer ↔ ShowsSums rows b.places) closed.book_is says;
}

pub storms : {D : Type 0} (rules : D → RuleSet) (deciders : List D) (binders : ℕ) (desk : Desk) (fed : List Step) (counts : Counts) (rows : List Shown) (clerk last : Pass) (book : Cluster) (answer : Bool) (Wrote : List ℕ → Type 0)
    → HasEnded rules deciders binders desk fed counts rows clerk → Closed desk clerk last book → (IsTrue answer ↔ ShowsSums rows book.places) → Wrote (storm_text rows counts answer)
    → Storms rules deciders binders fed Wrote answer
storms rules deciders binders desk fed counts rows clerk last book answer Wrote ended closed says wrote =
    let both : (s : IsStorm rules deciders (desk_for (length deciders) binders) fed rows counts) × IsAudit (desk_for (length deciders) binders) s.looked rows answer =
    subst (λ (x : Desk). (s : IsStorm rules deciders x fed rows counts) × IsAudit x s.looked rows answer) ended.desk_is
    (ended.storm, audited desk clerk last book ended.storm.looked rows answer ended.knows closed says) in
    record { rows = rows; counts = counts; storm = both.0; audit = both.1; wrote = wrote }

-- A desk was closed that a storm had ended on, and what was dumped was audited by its book and told.
pub told_storm : {D : Type 0} (rules : D → RuleSet) (deciders : List D) (binders : ℕ) (desk : Desk) (fed : List Step) (counts : Counts) (rows : List Shown) (clerk last : Pass) (sink : DeviceUse) (result : Result Bool RunFault)
    → HasEnded rules deciders binders desk fed counts rows clerk → IsClosedAndTold desk clerk last counts rows sink result → IsStormOf rules deciders binders fed sink result
told_storm rules deciders binders desk fed counts rows clerk last sink (Ok answer) over told = record {
  storm = storms rules deciders binders desk fed counts rows clerk last told.book answer (Appends sink.old sink.new) over told.closed told.says told.wrote;
  front = λ is. cc;
  quiet = tt;
  faults = tt;
  write = told.write;
  write_told = told.write_told;
}
told_storm rules deciders binders desk fed counts rows clerk last sink (Err e) over told = record {
  storm = tt;
  front = λ failed. let front = told.front failed in
      (front.0, storms rules deciders binders desk fed counts rows clerk last told.book front.0 (AppendsFront sink.old sink.new) over told.closed front.1 front.2);
  quiet = told.quiet;
  faults = elim told.faults [
    | inl none ↦ inl none
    | inr failed ↦ inr (inr failed)
  ];
  write = told.write;
  write_told = told.write_told;
}

-- ---- what closing and telling came to

not_write : {e : RunFault} → (e ≡ NoMemory) ⊎ (e ≡ NoPlace) → ◌≡◌ {A = Result Bool RunFault} (Err e) (Err Write) → ⊥
not_write (inl is) other = cc
not_write (inr is) other = cc

no_answer : {answer : Bool} {e : RunFault} → ◌≡◌ {A = Result Bool RunFault} (Ok answer) (Err e) → ⊥
no_answer is = cc

-- there was no memory for what is to be told
pub untold : (desk : Desk) (clerk last : Pass) (counts : Counts) (rows : List Shown) (sink : DeviceUse) (book : Cluster) → Closed desk clerk last book
    → sink.IsUntouched → sink.failures_new ≡ sink.failures_old → IsClosedAndTold desk clerk last counts rows sink (Err NoMemory)
untold desk clerk last counts rows sink book closed untouched same = record {
  book = book;
  closed = closed;
  says = tt;
  wrote = tt;
  front = λ is. absurd (not_write (inl refl) is);
  quiet = λ _. untouched;
  faults = inl refl;
  write = λ is. absurd (not_write (inl refl) is);
  write_told = λ _. same;
}

-- the write failed
pub unwritten : (desk : Desk) (clerk last : Pass) (counts : Counts) (rows : List Shown) (sink : DeviceUse) (book : Cluster) (answer : Bool) → Closed desk clerk last book
    → (IsTrue answer ↔ ShowsSums rows book.places) → AppendsFront sink.old sink.new (storm_text rows counts answer) → sink.failures_old < sink.failures_new
    → IsClosedAndTold desk clerk last counts rows sink (Err Write)
unwritten desk clerk last counts rows sink book answer closed says begun more = record {
  book = book;
  closed = closed;
  says = tt;
  wrote = tt;
  front = λ _. (answer, says, begun);
  quiet = λ other. absurd (other refl);
  faults = inr refl;
  write = λ _. more;
  write_told = λ other. absurd (other refl);
}

-- all was written
pub told : (desk : Desk) (clerk last : Pass) (counts : Counts) (rows : List Shown) (sink : DeviceUse) (book : Cluster) (answer : Bool) → Closed desk clerk last book
    → (IsTrue answer ↔ ShowsSums rows book.places) → Appends sink.old sink.new (storm_text rows counts answer) → sink.failures_new ≡ sink.failures_old
    → IsClosedAndTold desk clerk last counts rows sink (Ok answer)
told desk clerk last counts rows sink book answer closed says whole same = record {
  book = book;
  closed = closed;
  says = says;
  wrote = whole;
  front = λ is. absurd (no_answer is);
  quiet = tt;
  faults = tt;
  write = λ is. absurd (no_answer is);
  write_told = λ _. same;
}

-- ---- a storm on a desk of its own

-- nothing was told of it
pub none_told : {D : Type 0} (rules : D → RuleSet) (deciders : List D) (binders : ℕ) (fed : List Step) (sink : DeviceUse) (e : RunFault) → (e ≡ NoMemory) ⊎ (e ≡ NoPlace)
    → sink.IsUntouched → sink.failures_new ≡ sink.failures_old → IsStormOf rules deciders binders fed sink (Err e)
none_told rules deciders binders fed sink e why untouched same = record {
  storm = tt;
  front = λ is. absurd (not_write why is);
  quiet = λ _. untouched;
  faults = elim why [
    | inl none ↦ inl none
    | inr full ↦ inr (inl full)
  ];
  write = λ is. absurd (not_write why is);
  write_told = λ _. same;
}

-- ---- the run

-- why a storm whose script was read may end early
abbrev pub IsLate : RunFault → Type 0
IsLate e = (e ≡ NoMemory) ⊎ ((e ≡ NoPlace) ⊎ (e ≡ Write))

not_line : (e : RunFault) (number : ℕ) (fault : LineFault) → IsLate e → e ≡ Line number fault → ⊥
not_line e number fault (inl is) other = cc
not_line e number fault (inr (inl is)) other = cc
not_line e number fault (inr (inr is)) other = cc

not_read : (e : RunFault) → IsLate e → e ≡ Read → ⊥
not_read e (inl is) other = cc
not_read e (inr (inl is)) other = cc
not_read e (inr (inr is)) other = cc

one_fault : (e e' : RunFault) (r : Result Bool RunFault) → r ≡ Err e → r ≡ Err e' → e ≡ e'
one_fault e e' r is other = cc

run_of : {D : Type 0} (rules : D → RuleSet) (deciders : List D) (binders : ℕ) (source sink : DeviceUse) (steps : List Step) (result : Result Bool RunFault)
    → AreOfScript steps source → source.failures_new ≡ source.failures_old
    → IfOk result (Storms rules deciders binders steps (Appends sink.old sink.new))
    → (result ≡ Err Write → (answer : Bool) × Storms rules deciders binders steps (AppendsFront sink.old sink.new) answer)
    → OnErr result (result ≢ Err Write → sink.IsUntouched) → IfErr result IsLate
    → (result ≡ Err Write → sink.failures_old < sink.failures_new) → (result ≢ Err Write → sink.failures_new ≡ sink.failures_old)
    → IsStormRun rules deciders binders source sink result
run_of rules deciders binders source sink steps (Ok answer) read reads storm front quiet late write write_told = record {
  done = (steps, read, storm);
  front = λ is. cc;
  line = λ number fault is. cc;
  quiet = tt;
  read = λ is. cc;
  write = write;
  read_told = λ _. reads;
  write_told = write_told;
}
run_of rules deciders binders source sink steps (Err e) read reads storm front quiet late write write_told = record {
  done = tt;
  front = λ is. let told = front is in (told.0, (steps, read, told.1));
  line = λ number fault is. absurd (not_line e number fault late (one_fault e (Line number fault) (Err e) refl is));
  quiet = quiet;
  read = λ is. absurd (not_read e late (one_fault e Read (Err e) refl is));
  write = write;
  read_told = λ _. reads;
  write_told = write_told;
}

-- so of what was promised of these steps told of under another name
pub run_from : {D : Type 0} (rules : D → RuleSet) (deciders : List D) (binders : ℕ) (source sink : DeviceUse) (steps shown : List Step) (result : Result Bool RunFault)
    → AreOfScript steps source → source.failures_new ≡ source.failures_old → shown ≡ steps → IsStormOf rules deciders binders shown sink result
    → IsStormRun rules deciders binders source sink result
run_from rules deciders binders source sink steps shown result read reads same told =
    let of : IsStormOf rules deciders binders steps sink result = subst (λ (x : List Step). IsStormOf rules deciders binders x sink result) same told in
    run_of rules deciders binders source sink steps result read reads of.storm of.front of.quiet of.faults of.write of.write_told

-- who gives something met no fault
pub none_failed : {X : Type 0} (x : X) (e : RunFault) → ◌≡◌ {A = Result X RunFault} (Ok x) (Err e) → ⊥
none_failed x e is = cc

-- the same fault, of another result
same_fault : {X Y : Type 0} {e e' : RunFault} → ◌≡◌ {A = Result X RunFault} (Err e) (Err e') → ◌≡◌ {A = Result Y RunFault} (Err e) (Err e')
same_fault is = cc

-- the script wasn't read
pub unread : {D X : Type 0} (rules : D → RuleSet) (deciders : List D) (binders : ℕ) (source sink : DeviceUse) (e : RunFault)
    → ((number : ℕ) (fault : LineFault) → ◌≡◌ {A = Result X RunFault} (Err e) (Err (Line number fault)) → IfSome source.old (λ script. first_storm_fault script ≡ Some (number, fault)))
    → (◌≡◌ {A = Result X RunFault} (Err e) (Err Read) → source.failures_old < source.failures_new)
    → (◌≢◌ {A = Result X RunFault} (Err e) (Err Read) → source.failures_new ≡ source.failures_old)
    → ◌≢◌ {A = Result X RunFault} (Err e) (Err Write) → sink.IsUntouched → sink.failures_new ≡ sink.failures_old
    → IsStormRun rules deciders binders source sink (Err e)
unread rules deciders binders source sink e line failed told no_write untouched same = record {
  done = tt;
  front = λ is. absurd (no_write (same_fault is));
  line = λ number fault is. line number fault (same_fault is);
  quiet = λ _. untouched;
  read = λ is. failed (same_fault is);
  write = λ is. absurd (no_write (same_fault is));
  read_told = λ other. told (λ is. other (same_fault is));
  write_told = λ _. same;
}
