-- Settings that know what a book knows.
use Rattle.std.proofs.Common.{◌≡◌, ℕ, IsTrue, List, [], ◌∷◌, ◌++◌, refl, sym, ap, ◌∙◌, subst}
use Rattle.std.proofs.lemmas.List.{append-nil}
use Rattle.spaces.specs.declared.roster.Request.{Request}
use Rattle.spaces.specs.declared.roster.Roster.{Roster}
use Rattle.auth_events.specs.declared.journal.BookReply.{BookReply}
use Rattle.auth_events.specs.declared.journal.Call.{Call}
use Rattle.auth_events.specs.declared.journal.Entry.{Entry}
use Rattle.auth_events.specs.Book.{IsLegalPast}
use Rattle.auth_events.specs.Tables.{Tables}
use Rattle.auth_runs.specs.declared.event.Event.{Event}
use Rattle.auth_runs.specs.declared.event.Event.TheVariants.{Called}
use Rattle.trace_rule.specs.Closings.{want}
use Rattle.trace_rule.specs.Growing.{KnowsMore, NamesGrow, grown}
use Rattle.trace_rule.specs.Settings.{Setting, setting_of}
use Rattle.trace_rule.specs.Traces.{Follows, IsPast, suits}
use Rattle.trace_rule.proofs.Growing.{past_more}
use Rattle.trace_rule.proofs.Knowing.{suits_of}
use Rattle.trace_rule.proofs.Lasting.{later_knows}
use Rattle.serving_laws.specs.Knowing.{KnowsBook}

pub knows_itself : (roster : Roster) (seed : List ℕ) (names : Tables) (entries : List Entry) (r : ℕ) (request : Request)
    → KnowsBook roster seed names entries r request (setting_of roster seed names entries r request)
knows_itself roster seed names entries r request = record {
  same_number = refl;
  same_request = refl;
  same_seed = refl;
  no_negotiate = refl;
  knows = record {
    space_no = λ space n found. found;
    space_of = λ n space found. found;
    terms_no = λ space terms n found. found;
    terms_of = λ n name found. found;
    identity_of = λ gift login found. found;
  };
}

twice : (a b c : Setting) → KnowsMore a b → KnowsMore b c → KnowsMore a c
twice a b c first second = record {
  space_no = λ space n found. second.space_no space n (first.space_no space n found);
  space_of = λ n space found. second.space_of n space (first.space_of n space found);
  terms_no = λ space terms n found. second.terms_no space terms n (first.terms_no space terms n found);
  terms_of = λ n name found. second.terms_of n name (first.terms_of n name found);
  identity_of = λ gift login found. second.identity_of gift login (first.identity_of gift login found);
}

-- what knows the book later knows it before
pub knew_before : (roster : Roster) (seed : List ℕ) (names more : Tables) (later entries : List Entry) (r : ℕ) (request : Request) (s : Setting)
    → NamesGrow names more → IsLegalPast roster more (later ++ entries)
    → KnowsBook roster seed more (later ++ entries) r request s → KnowsBook roster seed names entries r request s
knew_before roster seed names more later entries r request s grow legal k = record {
  same_number = k.same_number;
  same_request = k.same_request;
  same_seed = k.same_seed;
  no_negotiate = k.no_negotiate;
  knows = twice (setting_of roster seed names entries r request) (setting_of roster seed more (later ++ entries) r request) s (later_knows roster seed names more grow later entries legal r request) k.knows;
}

pub same_names : (names : Tables) → NamesGrow names names
same_names names = record { new_spaces = []; new_terms = []; new_texts = []; spaces = sym (append-nil names.spaces); terms = sym (append-nil names.terms); texts = sym (append-nil names.texts) }

grown_is : (a s : Setting) → s.number ≡ a.number → s.request ≡ a.request → s.seed ≡ a.seed → s.has_negotiate ≡ a.has_negotiate → grown a s ≡ s
grown_is a s p q t u =
    sym (ap (λ x. record s { number = x }) p
    ∙ (ap (λ x. record s { number = a.number; request = x }) q
    ∙ (ap (λ x. record s { number = a.number; request = a.request; seed = x }) t
    ∙ ap (λ x. record s { number = a.number; request = a.request; seed = a.seed; has_negotiate = x }) u)))

-- a reply that the rule takes by what the book knows, it takes by each setting that knows it
pub suits_known : (roster : Roster) (seed : List ℕ) (names : Tables) (entries : List Entry) (r : ℕ) (request : Request) (s : Setting) (past : List Event) (call : Call) (reply : BookReply)
    → KnowsBook roster seed names entries r request s
    → IsPast (setting_of roster seed names entries r request) past
    → Follows (setting_of roster seed names entries r request) past (want (setting_of roster seed names entries r request) past) (Called call reply)
    → IsTrue (suits s past call reply)
suits_known roster seed names entries r request s past call reply k run next =
    let here = setting_of roster seed names entries r request in
    subst (λ x. IsTrue (suits x past call reply)) (grown_is here s k.same_number k.same_request k.same_seed k.no_negotiate)
    (suits_of (grown here s) past (want (grown here s) past) call reply (past_more here s k.knows (Called call reply ∷ past) (run, next)).1)
