-- A bind is granted where it may be asked for, and nowhere else.
use Rattle.std.proofs.Common.{◌≡◌, Bool, true, false, Option, None, Some, refl, sym, ap, subst, ◌∙◌, arith}
use Rattle.std.specs.Prelude.{if◌then◌else◌, is_ok}
use Rattle.std.specs.FinMap.{get}
use Rattle.quant.specs.declared.amount.Request.{Request}
use Rattle.quant.specs.declared.name.Name.{Name}
use Rattle.quant.specs.declared.objects.Node.{Node as Row}
use Rattle.quant.specs.declared.version.Ticket.{Ticket}
use Rattle.fit.specs.Fit.{fit_of}
use Rattle.book.specs.Cluster.{Cluster}
use Rattle.book.specs.Step.{refusal, effect, next_ticket, are_tickets_gone}
use Rattle.book.specs.Tables.{is_full_for}
use Rattle.book.specs.Used.{used}
use Rattle.book.specs.declared.refusal.Refusal.{Refusal}
use Rattle.book.specs.declared.step.ClusterStep.TheVariants.{Assume}
use Rattle.book.specs.declared.entry.Entry.TheVariants.{Held}
use Rattle.ledger.specs.declared.event.Answer.{Answer}
use Rattle.ledger.specs.declared.event.Answer.TheVariants.{Granted, Shut, NotWaiting, Refused}
use Rattle.ledger.specs.declared.event.Event.TheVariants.{Bind}
use Rattle.ledger.specs.declared.known.Asking.TheVariants.{Sent}
use Rattle.ledger.specs.declared.known.Known.{Known}
use Rattle.ledger.specs.declared.known.Stage.{Stage}
use Rattle.ledger.specs.declared.known.Stage.TheVariants.{Waits, Asked, Stands}
use Rattle.ledger.specs.Laws.{EachCountsOnce, MayBind, IsGrantRight}
use Rattle.ledger.specs.State.{State, is_open}
use Rattle.ledger.specs.Telling.{Became, became, bind_at, bind_of, with_pod}
use Rattle.ledger.specs.Told.{IsTold}
use Rattle.ledger.proofs.Counting.{at_stage_of}
use Rattle.ledger.proofs.Worlds.{row_with}

-- the book takes what may be bound
taken : (c : Cluster) (uid node : Name) (request : Request) (row : Row) → get c.places uid ≡ None → get c.nodes node ≡ Some row → is_ok (fit_of row.allocatable (used c.places node) request) ≡ true → is_full_for c.places c.limits.placed uid ≡ false → are_tickets_gone c ≡ false → refusal c (Assume uid node (Held request)) ≡ None
taken c uid node request row none there fits room tickets = grind (arith, none, there, fits, room, tickets)

-- and has room for what it takes
has_room : (c : Cluster) (uid node : Name) (request : Request) → refusal c (Assume uid node (Held request)) ≡ None → (is_full_for c.places c.limits.placed uid ≡ false) × (are_tickets_gone c ≡ false)
has_room c uid node request none = (grind (arith, none), grind (arith, none))

same_request : (a b : Request) → Waits a ≡ Waits b → a ≡ b
same_request a b e = cc

module _ (s : State) (each : EachCountsOnce s) (uid node : Name) (answer : Answer) where
  abbrev Right : Became → Type 0
  Right b = answer ≡ b.answer → IsGrantRight s uid node answer

  -- where nothing may be bound, nothing is granted
  not_granted : (a : Answer) → ((ticket : Ticket) → a ≡ Granted ticket → ⊥) → ((request : Request) → MayBind s uid node request → ⊥) → Right (became a s)
  not_granted a other none is = record {
    only = λ ticket granted. absurd (other ticket (sym is ∙ granted));
    where_it_may = λ request may. absurd (none request may);
  }

  right_if : is_open s ≡ true → (known : Known) → get s.pods uid ≡ Some known → (request : Request) → known.stage ≡ Waits request → (o : Option Refusal) → refusal s.cluster (Assume uid node (Held request)) ≡ o
      → Right (elim o [ None ↦ became (Granted (next_ticket s.cluster)) (with_pod (record s { cluster = effect s.cluster (Assume uid node (Held request)) }) uid (record known { stage = Asked request (next_ticket s.cluster) Sent })) | Some why ↦ became (Refused why) s ])
  right_if opened known there request at None none is =
      let rooms = has_room s.cluster uid node request none in
      record {
        only = λ ticket granted. (
          request,
          record {
            opened = opened;
            waits = (known, there, at);
            fits = row_with s.cluster uid node request none (get s.cluster.nodes node) refl;
            room = rooms.0;
            tickets = rooms.1;
          },
        );
        where_it_may = λ request may. (next_ticket s.cluster, is);
      }
  right_if opened known there request at (Some why) refused is = record {
    only = λ ticket granted. absurd (let both : Refused why ≡ Granted ticket = sym is ∙ granted in cc);
    where_it_may = λ r may.
        let known_is : known ≡ may.waits.0 = let both : Some known ≡ Some may.waits.0 = sym there ∙ may.waits.1 in cc in
        let r_is : request ≡ r = same_request request r (sym at ∙ ap (λ k. k.stage) known_is ∙ may.waits.2) in
        let fits = may.fits in
        let none : get s.cluster.places uid ≡ None = at_stage_of s each uid known (Waits request) there at in
        let taken : refusal s.cluster (Assume uid node (Held request)) ≡ None = subst (λ q. refusal s.cluster (Assume uid node (Held q)) ≡ None) (sym r_is) (taken s.cluster uid node r fits.0 none fits.1 fits.2 may.room may.tickets) in
        absurd (let both : Some why ≡ None = sym refused ∙ taken in cc);
  }

  other_stage : (known : Known) → get s.pods uid ≡ Some known → (stage : Stage) → known.stage ≡ stage → ((request : Request) → stage ≡ Waits request → ⊥) → (request : Request) → MayBind s uid node request → ⊥
  other_stage known there stage at other request may =
      let known_is : known ≡ may.waits.0 = let both : Some known ≡ Some may.waits.0 = sym there ∙ may.waits.1 in cc in
      other request (sym at ∙ ap (λ k. k.stage) known_is ∙ may.waits.2)

  right_at : is_open s ≡ true → (known : Known) → get s.pods uid ≡ Some known → (stage : Stage) → known.stage ≡ stage → Right (bind_at s uid node known stage)
  right_at opened known there (Waits request) at = right_if opened known there request at (refusal s.cluster (Assume uid node (Held request))) refl
  right_at opened known there (Asked request ticket asking) at = not_granted NotWaiting (λ t e. cc) (other_stage known there (Asked request ticket asking) at (λ r e. cc))
  right_at opened known there Stands at = not_granted NotWaiting (λ t e. cc) (other_stage known there Stands at (λ r e. cc))

  right_of : is_open s ≡ true → (o : Option Known) → get s.pods uid ≡ o → Right (bind_of s uid node o)
  right_of opened None there = not_granted NotWaiting (λ t e. cc) (λ request may. let both : Some may.waits.0 ≡ None = sym may.waits.1 ∙ there in cc)
  right_of opened (Some known) there = right_at opened known there known.stage refl

  right_open : (b : Bool) → is_open s ≡ b → Right (if b then bind_of s uid node (get s.pods uid) else became Shut s)
  right_open true opened = right_of opened (get s.pods uid) refl
  right_open false shut = not_granted Shut (λ t e. cc) (λ request may. let both : true ≡ false = sym may.opened ∙ shut in cc)

pub grants_right : (s s' : State) (uid node : Name) (answer : Answer) → EachCountsOnce s → IsTold s (Bind uid node) answer s' → IsGrantRight s uid node answer
grants_right s s' uid node answer each told = right_open s each uid node answer (is_open s) refl (ap (λ b. b.answer) told)
