-- What the words ask for is done, or its fault is told, at each end of an answer.
use Rattle.std.proofs.Common.{◌≡◌, ℕ, List, Option, Some, None, Result, Ok, Err, inl, inr, refl, sym, subst, arith}
use Rattle.std.specs.Prelude.{IfErr}
use Rattle.streams.specs.Device.{DeviceUse}
use Rattle.command.specs.Misuse.{misuse_of}
use Rattle.command.specs.Words.{Asked, asked_by, meaning, run, explain, check, storm, translate, live, version}
use Rattle.command.specs.declared.fault.WordFault.{WordFault}
use Rattle.command.specs.declared.fault.WordFault.TheVariants as word_fault
use Rattle.fault_line.specs.declared.fault.Fault.{Fault}
use Rattle.fault_line.specs.declared.fault.Fault.TheVariants.{Run, Words, Misused}
use Rattle.streams.specs.declared.fault.RunFault.TheVariants as run_fault
use Rattle.fault_line.specs.Fault.{status_of}
use Rattle.site_modules.specs.Files.{FilesUse}
use Rattle.wsched.specs.Answer.{IsAnswer, IsDone}
use Rattle.site_modules.specs.Told.{TellsFault, told_of}
use Rattle.site.proofs.Ends.{not_begun}
use Rattle.site_modules.proofs.Failures.{told}
use Rattle.site_modules.proofs.Failures.{no_memory_told}
use Rattle.storm_site.proofs.StormEnds.{storm_not_begun}
use Rattle.translator.proofs.Translated.{nothing_translated}

module _ (Unkeyed : Type 0) (files : FilesUse) (source out err : DeviceUse) (ended : ℕ) where
  -- nothing was touched
  pub record AreUntouched : Type 0 where
    pub unopened : files.IsUntouched
    pub opens : files.failures_new ≡ files.failures_old
    pub unread : source.IsUntouched
    pub reads : source.failures_new ≡ source.failures_old
    pub unwritten : out.IsUntouched
    pub same : out.new ≡ out.old
    pub writes : out.failures_new ≡ out.failures_old

  -- memory was wanting for the words: whatever they ask for isn't begun
  wanting : (asked : Option Asked) (fault : Fault) → ended ≡ 3 → TellsFault err (Words word_fault.NoMemory) → AreUntouched → IsDone asked fault Unkeyed files source out err ended
  wanting None fault three tells h = record {
    status = inr three;
    words = λ two. absurd (omega (arith, two, three));
    room = λ _. rw no_memory_told at tells;
    unopened = h.unopened;
    unread = h.unread;
    unwritten = h.unwritten;
  }
  wanting (Some (run workers specs)) fault three tells h = record {
    run = not_begun _ _ _ _ _ _ _ (inl three) h.unwritten;
    failures = told _ _ _ _ _ _ _ (Words word_fault.NoMemory) three tells (h.reads, h.writes);
    files_told = λ _. h.opens;
  }
  wanting (Some (explain workers specs)) fault three tells h = record {
    run = not_begun _ _ _ _ _ _ _ (inl three) h.unwritten;
    failures = told _ _ _ _ _ _ _ (Words word_fault.NoMemory) three tells (h.reads, h.writes);
    files_told = λ _. h.opens;
  }
  wanting (Some (check file)) fault three tells h = record {
    check = record {
      status = inr (inr (inl three));
      told = λ low. absurd (omega (arith, low, three));
      quiet = λ low. absurd (omega (arith, low, three));
      room = λ _. (rw no_memory_told at tells, h.unwritten);
      failed = λ four. absurd (omega (arith, four, three));
      failures_told = λ _. h.writes;
      front = inl h.unwritten;
    };
    files_told = λ _. h.opens;
    unread = h.unread;
  }
  wanting (Some (storm cycles binders flaky specs)) fault three tells h = record {
    storm = storm_not_begun _ _ _ _ _ _ _ _ (inl three) h.unwritten;
    failures = told _ _ _ _ _ _ _ (Words word_fault.NoMemory) three tells (h.reads, h.writes);
    files_told = λ _. h.opens;
  }
  wanting (Some (translate scheduler labels by_uid answers)) fault three tells h = record {
    translated = nothing_translated _ source out err ended three (rw no_memory_told at tells) h.same h.reads h.writes;
    unopened = h.unopened;
  }
  wanting (Some (live scheduler labels workers specs)) fault three tells h = record {
    came = inr (Run run_fault.NoMemory, inr h.opens, record { status = three; tells = rw no_memory_told at tells; unread = h.unread; unwritten = h.unwritten });
    files_told = λ _. h.opens;
  }
  wanting (Some version) fault three tells h = record {
    tells = record {
      status = inr (inl three);
      told = λ zero. absurd (omega (arith, zero, three));
      room = λ _. (rw no_memory_told at tells, h.unwritten);
      failed = λ four. absurd (omega (arith, four, three));
      failures_told = λ _. h.writes;
      front = inl h.unwritten;
    };
    unopened = h.unopened;
    unread = h.unread;
  }

  -- words that could be read are answered as their texts are
  pub of_words : {V : Type 0} (texts : V → List (List ℕ)) (args : Result V WordFault) (words : V) (given : List (List ℕ)) → args ≡ Ok words → given ≡ texts words
      → IsAnswer (λ (l : List (List ℕ)). l) (Ok given) Unkeyed files source out err ended → IsAnswer texts args Unkeyed files source out err ended
  of_words texts args words given is same it = subst (λ a. IsAnswer texts a Unkeyed files source out err ended) (sym is) (record {
    done = subst (λ l. IsDone (meaning l) (Misused (misuse_of l)) Unkeyed files source out err ended) same it.done;
    unread = tt;
  })

  module _ {V : Type 0} (texts : V → List (List ℕ)) (args : Result V WordFault) where
    -- the words could be read, and what they ask for is done
    pub done : (words : V) (asked : Option Asked) → args ≡ Ok words → asked_by texts args ≡ asked
        → IsDone asked (told_of texts args) Unkeyed files source out err ended → IsAnswer texts args Unkeyed files source out err ended
    done words asked is asks it = record {
      done = subst (λ a. IsDone a (told_of texts args) Unkeyed files source out err ended) (sym asks) it;
      unread = subst (λ a. IfErr a (λ fault. (ended ≡ status_of (Words fault)) × TellsFault err (Words fault))) (sym is) tt;
    }

    -- memory was wanting for them
    pub wanting_words : (words : V) → args ≡ Ok words → ended ≡ 3 → TellsFault err (Words word_fault.NoMemory) → AreUntouched
        → IsAnswer texts args Unkeyed files source out err ended
    wanting_words words is three tells h = done words (asked_by texts args) is refl (wanting _ _ three tells h)

    -- they couldn't be read
    pub unread : (fault : WordFault) → args ≡ Err fault → ended ≡ status_of (Words fault) → TellsFault err (Words fault) → AreUntouched
        → IsAnswer texts args Unkeyed files source out err ended
    unread fault is status tells h = subst (λ a. IsAnswer texts a Unkeyed files source out err ended) (sym is) (record {
      done = idle fault status tells;
      unread = (status, tells);
    })
      where
        idle : (fault : WordFault) → ended ≡ status_of (Words fault) → TellsFault err (Words fault) → IsDone None (Words fault) Unkeyed files source out err ended
        idle word_fault.BadWords two tells = record {
          status = inl two;
          words = λ _. tells;
          room = λ three. absurd (omega (arith, two, three));
          unopened = h.unopened;
          unread = h.unread;
          unwritten = h.unwritten;
        }
        idle word_fault.NoMemory three tells = wanting None (Words word_fault.NoMemory) three tells h
