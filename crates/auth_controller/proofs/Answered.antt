-- A machine that is given what the book or the words told is served on.
use Rattle.std.proofs.Common.{◌≡◌, inr, ℕ, suc, ◌≤◌, ◌<◌, true, false, IsTrue, List, ◌∷◌, length, Some, is_some, refl, sym, ap, ◌∙◌, subst, arith}
use Rattle.std.proofs.lemmas.Bool.{false≢true}
use Rattle.spaces.specs.declared.roster.Request.{Request}
use Rattle.spaces.specs.declared.roster.Roster.{Roster}
use Rattle.auth_events.specs.declared.journal.BookReply.{BookReply}
use Rattle.auth_events.specs.declared.journal.Call.{Call}
use Rattle.auth_events.specs.declared.journal.Drawn.{Drawn}
use Rattle.auth_events.specs.declared.told.Told.{Told}
use Rattle.auth_events.specs.Book.{IsLegalPast, answer}
use Rattle.auth_events.specs.Told.{names_told, past, retired_by, told_after}
use Rattle.auth_runs.specs.declared.event.Event.{Event}
use Rattle.auth_runs.specs.declared.event.Event.TheVariants.{Called}
use Rattle.book_laws.proofs.Stepping.{adds_after}
use Rattle.trace_laws.specs.Answering.{made}
use Rattle.trace_rule.specs.Settings.{Setting, setting_of}
use Rattle.trace_rule.proofs.Drops.{spaces_numbered}
use Rattle.serving_laws.specs.Draws.{with_retired}
use Rattle.serving_laws.specs.Meeting.{none_pending}
use Rattle.serving_laws.proofs.Knowing.{knows_itself}
use Rattle.request_machine.specs.declared.gave.Gave.TheVariants.{Reply}
use Rattle.request_machine.specs.declared.need.Need.{Need}
use Rattle.request_machine.specs.declared.need.Need.TheVariants.{Book}
use Rattle.request_machine.specs.declared.stage.Stage.{Stage}
use Rattle.request_machine.specs.declared.stage.Stage.TheVariants.{Answer as Answering, NameTerms, Over, Renew as Renewing, RenewLast, Select as Selecting, Spent, SpentEnd, SpentOver}
use Rattle.request_machine.specs.Kept.{Kept, Ties}
use Rattle.request_machine.specs.Needs.{need_at}
use Rattle.request_machine.specs.Rooms.{HasSetting, HasSettingIn}
use Rattle.request_machine.specs.Turns.{is_asking}
use Rattle.request_machine.specs.Work.{is_unspent, is_waiting}
use Rattle.auth_controller.specs.Answering.{HasServing, IsGiven, IsGivenAs, IsServedOn}
use Rattle.auth_controller.specs.Given.{IsReplied}
use Rattle.auth_controller.specs.Serving.{IsServing, has_memory, pending_at}
use Rattle.auth_controller.proofs.Going.{setting_known}
use Rattle.auth_controller.proofs.NeedStages.{is_kind, not_it}
use Rattle.auth_controller.proofs.Replied.{heard, replied_serving, reply_to}
use Rattle.auth_controller.proofs.Texts.{no_text}

-- THE MACHINE'S SETTING

module _ (roster : Roster) (before told : List Told) (first words : List Drawn) (request : Request) (m : Kept) (serving : IsServing roster before told first words request m) where
  abbrev here : Setting
  here = setting_of roster m.seed (names_told told) (past told) m.number request

  pub ties_here : Ties here m
  ties_here = serving.known here (knows_itself roster m.seed (names_told told) (past told) m.number request)

  pub served_setting : HasSetting m
  served_setting = record { setting = here; numbers = spaces_numbered false roster m.seed (names_told told) (past told) m.number request; ties = ties_here }

  pub served_setting_in : HasSettingIn roster m
  served_setting_in = record {
    setting = here;
    is_of = setting_known roster told request m here serving.served.alone.in_roster (knows_itself roster m.seed (names_told told) (past told) m.number request);
    numbers = spaces_numbered false roster m.seed (names_told told) (past told) m.number request;
    ties = ties_here;
  }

pub has_setting : (roster : Roster) (told : List Told) (words : List Drawn) (m : Kept) → HasServing roster told words m → HasSetting m
has_setting roster told words m has = served_setting roster has.before told has.first words has.request m has.serving

-- MEMORY, AND WHAT WAITS

pub is_free : (stage : Stage) → is_waiting stage ≡ false → pending_at stage ≡ none_pending
is_free (NameTerms t space) e = absurd (false≢true (sym e))
is_free (Selecting t space terms) e = absurd (false≢true (sym e))
is_free (Answering p text) e = absurd (false≢true (sym e))
is_free (Renewing t gift terms) e = absurd (false≢true (sym e))
is_free (RenewLast t gift terms c) e = absurd (false≢true (sym e))
is_free stage e = refl

pub spent_out : (stage : Stage) (events : List Event) → is_unspent stage ≡ false → IsTrue (has_memory stage events) → ⊥
spent_out Spent events e h = false≢true h
spent_out SpentEnd events e h = false≢true h
spent_out SpentOver events e h = false≢true h
spent_out stage events e h = false≢true (sym e)

pub memory_before : (m : Stage) (before : List Event) (n : Stage) (events : List Event) → (is_unspent m ≡ false → is_unspent n ≡ false) → (m ≡ Over → ⊥)
    → IsTrue (has_memory n events) → IsTrue (has_memory m before)
memory_before Spent before n events keeps going h = absurd (spent_out n events (keeps refl) h)
memory_before SpentEnd before n events keeps going h = absurd (spent_out n events (keeps refl) h)
memory_before SpentOver before n events keeps going h = absurd (spent_out n events (keeps refl) h)
memory_before Over before n events keeps going h = absurd (going refl)
memory_before stage before n events keeps going h = refl

pub asks_some : (m : Kept) (need : Need) → need_at m m.stage ≡ Some need → is_asking m ≡ true
asks_some m need e = ap is_some e

pub longer : (m n : Kept) (event : Event) → n.past ≡ event ∷ m.past → length m.past < length n.past
longer m n event is = let size : length n.past ≡ suc (length m.past) = ap length is in omega (arith, size)

-- A CALL

module _ (roster : Roster) (told more : List Told) (words : List Drawn) (m n : Kept) (has : HasServing roster told words m) (call : Call) (reply : BookReply)
    (need : need_at m m.stage ≡ Some (Book call)) (is_answer : reply ≡ answer roster (names_told told) (past told) m.number call) (after : more ≡ told_after told (made 1 m.number call reply))
    (legal : IsLegalPast roster (names_told more) (past more)) (given : IsGivenAs (Reply reply) m n) where
  grown_past : n.past ≡ Called call reply ∷ m.past
  grown_past = given.past ∙ heard roster has.before told more has.first words has.request m has.serving call reply need is_answer after legal

  grew : length m.past < length n.past
  grew = longer m n (Called call reply) grown_past

  not_over : m.stage ≡ Over → ⊥
  not_over is = not_it 0 8 (is_kind m Over (Book call) (subst (λ x. need_at m x ≡ Some (Book call)) is need)) refl

  is_replied : IsReplied call reply m n
  is_replied = record {
    past = grown_past;
    number = given.number;
    seed = given.seed;
    ties = given.ties;
    unspent = λ u. (memory_before m.stage m.past n.stage n.past given.unspent not_over u, is_free n.stage (given.free grew));
  }

  pub call_given : IsGiven roster told more m n
  call_given = record {
    gave = Reply reply;
    as_it = given;
    so = λ words before first request serving s k. reply_to roster before told more first words request m serving call reply need is_answer after legal s k m.stage refl need;
    text = no_text (names_told more) m m.stage (Reply reply) refl;
    heard = inr grew;
    left = given.nearer grew;
  }

  pub call_served : (out : ℕ) → out ≡ retired_by (names_told told) (past told) (made 1 m.number call reply) → out ≤ length words → IsServedOn roster told more words (with_retired words out) m n
  call_served out out_is within = record {
    adds = adds_after told more (made 1 m.number call reply) after;
    on = λ before first request serving. replied_serving roster before told more first words request m serving call reply need is_answer after legal n is_replied out out_is within;
  }
