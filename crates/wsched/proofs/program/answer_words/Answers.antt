use Rattle.std.proofs.Common.{refl, inl, inr, arith}
use Rattle.wsched.proofs.Answered.{done, wanting_words}
use Rattle.wsched.proofs.program.answer_words.Goals as goal

-- ---- the words ask for something, which is done

pub returns-in-Ok-Run : goal.returns-in-Ok-Run
returns-in-Ok-Run g c =
    let read = rw c.in-Ok-Run.field-0-is at c.in-Ok-Run.ensures.ok in
    done _ _ _ _ _ _ (λ given. given) _ _ _ refl read c.serve_plan.ensures

pub returns-in-Ok-Explain : goal.returns-in-Ok-Explain
returns-in-Ok-Explain g c =
    let read = rw c.in-Ok-Explain.field-0-is at c.in-Ok-Explain.ensures.ok in
    done _ _ _ _ _ _ (λ given. given) _ _ _ refl read c.serve_plan-in-Ok-Explain.ensures

pub returns-in-Ok-Storm : goal.returns-in-Ok-Storm
returns-in-Ok-Storm g c =
    let read = rw c.in-Ok-Storm.field-0-is at c.in-Ok-Storm.ensures.ok in
    done _ _ _ _ _ _ (λ given. given) _ _ _ refl read c.storm_plan.ensures

pub returns-in-Ok-Check : goal.returns-in-Ok-Check
returns-in-Ok-Check g c =
    let read = rw c.in-Ok-Check.field-0-is at c.in-Ok-Check.ensures.ok in
    done _ _ _ _ _ _ (λ given. given) _ _ _ refl read (record {
      check = c.check_file.ensures.check;
      files_told = c.check_file.ensures.files_told;
      unread = refl;
    })

pub returns-in-Ok-Translate : goal.returns-in-Ok-Translate
returns-in-Ok-Translate g c =
    let read = rw c.in-Ok-Translate.field-0-is at c.in-Ok-Translate.ensures.ok in
    done _ _ _ _ _ _ (λ given. given) _ _ _ refl read (record {
      translated = c.serve_translation.ensures;
      unopened = refl;
    })

pub returns-in-Ok-Live : goal.returns-in-Ok-Live
returns-in-Ok-Live g c =
    let read = rw c.in-Ok-Live.field-0-is at c.in-Ok-Live.ensures.ok in
    done _ _ _ _ _ _ (λ given. given) _ _ _ refl read c.live_plan.ensures

pub returns-in-Ok-Version : goal.returns-in-Ok-Version
returns-in-Ok-Version g c =
    let read = rw c.in-Ok-Version.field-0-is at c.in-Ok-Version.ensures.ok in
    let tells = c.tell_version.ensures in
    done _ _ _ _ _ _ (λ given. given) _ _ _ refl read (record {
      tells = record {
        status = elim tells.status [
          | inl zero ↦ inl zero
          | inr four ↦ inr (inr four)
        ];
        told = tells.told;
        room = λ three. elim tells.status [
          | inl zero ↦ absurd (omega (arith, zero, three))
          | inr four ↦ absurd (omega (arith, four, three))
        ];
        failed = tells.failed;
        failures_told = tells.failures_told;
        front = inr tells.front;
      };
      unopened = refl;
      unread = refl;
    })

-- ---- memory was wanting for the words

pub returns-in-Err-NoMemory : goal.returns-in-Err-NoMemory
returns-in-Err-NoMemory g c =
    wanting_words _ _ _ _ _ _ (λ given. given) _ _ refl c.report-in-Err-NoMemory.ensures.status c.report-in-Err-NoMemory.ensures.told
    (record { unopened = refl; opens = refl; unread = refl; reads = refl; unwritten = refl; same = refl; writes = refl })
