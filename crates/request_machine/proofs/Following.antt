-- Prompts that the request follows.
use Rattle.std.proofs.Common.{◌≡◌, ℕ, false, ◌∷◌, None, refl, sym, ap, ◌∙◌, IsTrue, subst}
use Rattle.std.specs.List.{list_any}
use Rattle.spaces.specs.declared.site.Target.{Target}
use Rattle.spaces.specs.declared.site.Target.TheVariants.{Server, Proxy}
use Rattle.auth_events.specs.declared.journal.Gift.{Gift}
use Rattle.auth_events.specs.declared.journal.Loss.{Loss}
use Rattle.auth_events.specs.declared.journal.Call.TheVariants.{Select, Take}
use Rattle.auth_events.specs.declared.journal.BookReply.TheVariants.{Follow, Gave, Cancelled, Lost}
use Rattle.auth_runs.specs.declared.event.Event.{Event}
use Rattle.auth_runs.specs.declared.event.Event.TheVariants.{Called}
use Rattle.auth_runs.specs.declared.event.Outcome.TheVariants.{Refused}
use Rattle.auth_runs.specs.declared.event.Why.TheVariants.{Cancelled as ByCancel}
use Rattle.trace_rule.specs.Settings.{Setting, target_is}
use Rattle.trace_rule.specs.Holding.{held, if_target, gift_held, terms_followed}
use Rattle.trace_rule.specs.Moves.Move.{Closes}
use Rattle.trace_rule.specs.Traces.{Follows, suits, is_end, space_prompted}
use Rattle.request_machine.specs.declared.stage.Prompt.{Prompt}
use Rattle.request_machine.specs.declared.stage.Stage.TheVariants.{Go, Select as Selecting, Take as Taking, Close}
use Rattle.request_machine.specs.Kept.{Kept, Ties, IsStage, is_after_end}
use Rattle.request_machine.specs.Told.{held_chosen, closing_by}
use Rattle.request_machine.specs.Asking.{outcome_lost, refused_by}
use Rattle.request_machine.proofs.Quiet.{same_held}
use Rattle.request_machine.proofs.Prompts.{open_behind}
use Rattle.request_machine.proofs.Targets.{held_space}
use Rattle.request_machine.proofs.Selected.{chosen_held}
use Rattle.request_machine.proofs.Prompting.{call_ties, still_open, none_made, either, led_by, gift_target, refused_left, call_closes, lost_closes, lost_left}

-- FOLLOWING A PROMPT

pub followed_ties : (s : Setting) (m : Kept) (t : Target) (n k p : ℕ) → m.stage ≡ Selecting t n k → IsTrue (suits s m.past (Select n k) (Follow p)) → Ties s m
    → Ties s (record m { past = Called (Select n k) (Follow p) ∷ m.past; stage = Taking (record { target = t; number = p; space = n; terms = k }) })
followed_ties s m x n k p same suited t =
    let no_end : list_any is_end m.past ≡ false = t.ended ∙ ap is_after_end same in
    let at : IsStage s m.past (Selecting x n k) = subst (IsStage s m.past) same t.stage in
    let event : Event = Called (Select n k) (Follow p) in
    call_ties s m (Select n k) (Follow p) (Taking (record { target = x; number = p; space = n; terms = k })) m.proxy m.server m.prompt
    (open_behind m.past event (λ q. refl) ∙ t.prompt) t tt
    (same_held s m.past event Proxy m.proxy (either (target_is s n Proxy) (held s m.past Proxy)) t.proxy)
    (same_held s m.past event Server m.server (either (target_is s n Server) (held s m.past Server)) t.server)
    (record {
      stands = (
        (at.0, subst (λ v. Follows s m.past v event) (sym at.1) (refl, suited)),
        refl,
        record { terms = led_by p k (terms_followed m.past p); space = led_by p n (space_prompted m.past p); of_target = at.2 },
      );
      ended = no_end;
      may_stop = refl;
      open_still = none_made s m (still_open s m (Selecting x n k) same t);
    })

-- the answer to a prompt of another request is a gift
pub taken_ties : (s : Setting) (m : Kept) (p : Prompt) (gift : Gift) → m.stage ≡ Taking p → IsTrue (suits s m.past (Take p.number) (Gave gift)) → Ties s m
    → Ties s (record m {
      past = Called (Take p.number) (Gave gift) ∷ m.past;
      stage = Go;
      proxy = held_chosen p.target gift p.terms Proxy m.proxy;
      server = held_chosen p.target gift p.terms Server m.server;
    })
taken_ties s m p gift same suited t =
    let no_end : list_any is_end m.past ≡ false = t.ended ∙ ap is_after_end same in
    let at : IsStage s m.past (Taking p) = subst (IsStage s m.past) same t.stage in
    let event : Event = Called (Take p.number) (Gave gift) in
    let spaced : gift.space ≡ p.space = held_space s gift (space_prompted m.past p.number) (terms_followed m.past p.number) suited ∙ at.2.space in
    call_ties s m (Take p.number) (Gave gift) Go (held_chosen p.target gift p.terms Proxy m.proxy) (held_chosen p.target gift p.terms Server m.server) m.prompt
    (open_behind m.past event (λ q. refl) ∙ t.prompt) t tt
    (chosen_held s m.past event Proxy p.target gift.space p.terms gift m.proxy (ap (λ k. if_target s Proxy gift.space (gift_held gift k None) (held s m.past Proxy)) at.2.terms) (gift_target s p gift spaced at.2.of_target) refl t.proxy)
    (chosen_held s m.past event Server p.target gift.space p.terms gift m.server (ap (λ k. if_target s Server gift.space (gift_held gift k None) (held s m.past Server)) at.2.terms) (gift_target s p gift spaced at.2.of_target) refl t.server)
    (record {
      stands = ((at.0, subst (λ v. Follows s m.past v event) (sym at.1) (refl, suited)), refl);
      ended = no_end;
      may_stop = rw no_end refl;
      open_still = none_made s m (still_open s m (Taking p) same t);
    })

-- it was cancelled
pub not_taken_ties : (s : Setting) (m : Kept) (p : Prompt) → m.stage ≡ Taking p → IsTrue (suits s m.past (Take p.number) Cancelled) → Ties s m
    → Ties s (record m { past = Called (Take p.number) Cancelled ∷ m.past; stage = Close (refused_by m (ByCancel p.number)) })
not_taken_ties s m p same suited t =
    let at : IsStage s m.past (Taking p) = subst (IsStage s m.past) same t.stage in
    let event : Event = Called (Take p.number) Cancelled in
    call_closes s m (Take p.number) Cancelled (refused_by m (ByCancel p.number)) m.prompt
    (at.0, subst (λ v. Follows s m.past v event) (sym at.1) (refl, suited)) (ap (λ c. Closes (Refused c (ByCancel p.number))) t.code)
    (refused_left s m (Called (Take p.number) Cancelled) (ByCancel p.number) (λ x. refl) t)
    (none_made s m (still_open s m (Taking p) same t)) (t.ended ∙ ap is_after_end same) refl (open_behind m.past event (λ q. refl) ∙ t.prompt) (λ x. refl) t

-- it was lost
pub lost_with_it_ties : (s : Setting) (m : Kept) (p : Prompt) (told : Loss) → m.stage ≡ Taking p → IsTrue (suits s m.past (Take p.number) (Lost told)) → Ties s m
    → Ties s (record m { past = Called (Take p.number) (Lost told) ∷ m.past; stage = Close (closing_by (outcome_lost told)) })
lost_with_it_ties s m p told same suited t =
    let at : IsStage s m.past (Taking p) = subst (IsStage s m.past) same t.stage in
    let event : Event = Called (Take p.number) (Lost told) in
    call_closes s m (Take p.number) (Lost told) (closing_by (outcome_lost told)) m.prompt
    (at.0, subst (λ v. Follows s m.past v event) (sym at.1) (refl, suited)) (lost_closes told) (lost_left s (event ∷ m.past) told)
    (none_made s m (still_open s m (Taking p) same t)) (t.ended ∙ ap is_after_end same) refl (open_behind m.past event (λ q. refl) ∙ t.prompt) (λ x. refl) t
