-- The prompts of a partition are the same in its own part of the past, under their new numbers.
use Rattle.std.proofs.Common.{◌≡◌, ℕ, Bool, true, false, not, ◌&&◌, ◌||◌, cond, List, [], ◌∷◌, length, refl, ap, sym, subst, ◌∙◌, Option, Some, None}
use Rattle.std.specs.Prelude.{All, IsTrue, find, option_map, unwrap_or, ◌==◌}
use Rattle.std.specs.List.{list_any}
use Rattle.std.proofs.Math.Bool.{and-false, and-true}
use Rattle.std.proofs.lemmas.Bool.{false≢true}
use Rattle.std.proofs.lemmas.List.Elements.{All-nil, All-cons, All-head, All-tail}
use Rattle.std.proofs.lemmas.List.Sums.{length-filter}
use Rattle.auth_events.specs.declared.journal.Call.{Call}
use Rattle.auth_events.specs.declared.journal.Call.TheVariants.{Answer, Lose, Take}
use Rattle.auth_events.specs.declared.journal.BookReply.{BookReply}
use Rattle.auth_events.specs.declared.journal.BookReply.TheVariants.{Follow, Lead, Given, Pending}
use Rattle.auth_events.specs.declared.journal.Entry.{Entry}
use Rattle.auth_events.specs.Past.{selects, settles, settled, lead, leads_of, open_lead, end, taken_from, is_lead, prompt_led, prompt_followed}
use Rattle.auth_events.specs.Book.{own, takes, waits, space_of_prompt, space_selected, is_led_by}
use Rattle.auth_events.proofs.Same.{number_same, number_refl}
use Rattle.isolation.specs.Partitions.{renumbered, call_renumbered, reply_renumbered}
use Rattle.isolation.proofs.Parts.{shrink, Agrees, any_shrunk, count_shrunk, find_shrunk, lead_moved, selects_moved, space_selected_moved}
use Rattle.isolation.proofs.Rivals.{IsApart}

abbrev pub is_follow : BookReply → Bool
is_follow (Follow prompt) = true
is_follow _ = false

-- the entry neither leads nor ends the prompt
pub record IsFarFromPrompt (entry : Entry) (p : ℕ) : Type 0 where
  pub settled : settles entry.call p ≡ false
  pub led : (is_lead entry.reply && prompt_led entry.reply == p) ≡ false

-- what is left out has nothing to do with the prompts that are one's own, and what is kept has to do with no others
pub record IsPromptApart (keep : Entry → Bool) (owns : ℕ → Bool) (entry : Entry) : Type 0 where
  pub out : keep entry ≡ false → (p : ℕ) → IsTrue (owns p) → IsFarFromPrompt entry p
  pub settled : IsTrue (keep entry) → (p : ℕ) → IsTrue (settles entry.call p) → IsTrue (owns p)
  pub taken : IsTrue (keep entry) → (p : ℕ) → IsTrue (takes entry.call p) → IsTrue (owns p)
  pub led : IsTrue (keep entry) → IsTrue (is_lead entry.reply) → IsTrue (owns (prompt_led entry.reply))
  pub followed : IsTrue (keep entry) → IsTrue (is_follow entry.reply) → IsTrue (owns (prompt_followed entry.reply))

-- prompts of one's own have new numbers of their own, none of them 0
pub record IsNumbering (f : ℕ → ℕ) (owns : ℕ → Bool) : Type 0 where
  pub once : (p q : ℕ) → IsTrue (owns p) → IsTrue (owns q) → (f p == f q) ≡ (p == q)
  pub some : (p : ℕ) → IsTrue (owns p) → (f p == 0) ≡ false
  pub zero : owns 0 ≡ false

own_test : (r : ℕ) (q : Entry → Bool) (past : List Entry) → list_any q (own past r) ≡ list_any (λ entry. entry.request == r && q entry) past
own_test r q [] = refl
own_test r q (entry ∷ past) = at (entry.request == r) (own_test r q past)
  where
    at : (b : Bool) → list_any q (own past r) ≡ list_any (λ e. e.request == r && q e) past → list_any q (cond b (entry ∷ own past r) (own past r)) ≡ (b && q entry || list_any (λ e. e.request == r && q e) past)
    at true before = ap (λ b. q entry || b) before
    at false before = before

and_same : (a b c : Bool) → (IsTrue a → b ≡ c) → (a && b) ≡ (a && c)
and_same true b c same = same refl
and_same false b c same = refl

middle_none : (a b : Bool) → (a && false && b) ≡ false
middle_none true b = refl
middle_none false b = refl

swapped : (a a' b c c' : Bool) → (a && c) ≡ (a' && c') → (a && b && c) ≡ (a' && b && c')
swapped a a' true c c' same = ap (λ x. x && c) (and-true a) ∙ (same ∙ sym (ap (λ x. x && c') (and-true a')))
swapped a a' false c c' same = middle_none a c ∙ sym (middle_none a' c')

-- the same for all entries that are apart
agrees_all : (f : ℕ → ℕ) (keep : Entry → Bool) (P : Entry → Type 0) (q q' : Entry → Bool) → ((entry : Entry) → P entry → Agrees f keep q q' entry) → (past : List Entry) → All P past → All (Agrees f keep q q') past
agrees_all f keep P q q' step [] all = All-nil (Agrees f keep q q')
agrees_all f keep P q q' step (entry ∷ past) all =
    All-cons (Agrees f keep q q') entry past (step entry (All-head P entry past all)) (agrees_all f keep P q q' step past (All-tail P entry past all))

pub any_entry : (past : List Entry) → All (λ (e : Entry). Unit {0}) past
any_entry [] = All-nil (λ (e : Entry). Unit {0})
any_entry (entry ∷ past) = All-cons (λ (e : Entry). Unit {0}) entry past tt (any_entry past)

module _ (f : ℕ → ℕ) (keep : Entry → Bool) where
  -- OWN ENTRIES

  module _ (r : ℕ) (here : (entry : Entry) → IsTrue (entry.request == r) → IsTrue (keep entry)) where
    not_here : (entry : Entry) → keep entry ≡ false → (entry.request == r) ≡ false
    not_here entry out = by (entry.request == r) refl
      where
        by : (b : Bool) → (entry.request == r) ≡ b → b ≡ false
        by false is = refl
        by true is = absurd (false≢true (sym out ∙ here entry is))

    pub own_shrunk : (P : Entry → Type 0) (q q' : Entry → Bool) → ((entry : Entry) → P entry → IsTrue (keep entry) → q' (renumbered f entry) ≡ q entry) → (past : List Entry) → All P past → list_any q' (own (shrink f keep past) r) ≡ list_any q (own past r)
    own_shrunk P q q' same past all =
        own_test r q' (shrink f keep past)
        ∙ (any_shrunk f keep (λ e. e.request == r && q e) (λ e. e.request == r && q' e) past
        (agrees_all f keep P (λ e. e.request == r && q e) (λ e. e.request == r && q' e) (λ entry p.
        record { out = λ out. ap (λ b. b && q entry) (not_here entry out); within = λ is. ap (λ b. entry.request == r && b) (same entry p is) }) past all)
        ∙ sym (own_test r q past))

    pub own_count : (past : List Entry) → length (own (shrink f keep past) r) ≡ length (own past r)
    own_count past =
        length-filter (λ e. e.request == r) (shrink f keep past)
        ∙ (count_shrunk f keep (λ e. e.request == r) (λ e. e.request == r) past
        (agrees_all f keep (λ e. Unit {0}) (λ e. e.request == r) (λ e. e.request == r) (λ entry u. record { out = not_here entry; within = λ is. refl }) past (any_entry past))
        ∙ sym (length-filter (λ e. e.request == r) past))

  module _ (owns : ℕ → Bool) (numbering : IsNumbering f owns) where
    abbrev Apart : Entry → Type 0
    Apart = IsPromptApart keep owns

    -- a prompt of one's own has no number 0
    pub own_some : (p : ℕ) → IsTrue (owns p) → (p == 0) ≡ false
    own_some p own = at (p == 0) refl
      where
        at : (b : Bool) → (p == 0) ≡ b → b ≡ false
        at false is = refl
        at true is = absurd (false≢true (sym numbering.zero ∙ subst (λ n. IsTrue (owns n)) (number_same p 0 is) own))

    settles_moved : (call : Call) → ((p : ℕ) → IsTrue (settles call p) → IsTrue (owns p)) → (q : ℕ) → IsTrue (owns q) → settles (call_renumbered f call) (f q) ≡ settles call q
    settles_moved (Answer p x t) may q own = numbering.once p q (may p (number_refl p)) own
    settles_moved (Lose p l) may q own = numbering.once p q (may p (number_refl p)) own
    settles_moved (Take p) may q own = refl
    settles_moved call may q own = refl

    pub takes_moved : (call : Call) → ((p : ℕ) → IsTrue (takes call p) → IsTrue (owns p)) → (q : ℕ) → IsTrue (owns q) → takes (call_renumbered f call) (f q) ≡ takes call q
    takes_moved (Answer p x t) may q own = refl
    takes_moved (Lose p l) may q own = refl
    takes_moved (Take p) may q own = numbering.once p q (may p (number_refl p)) own
    takes_moved call may q own = refl

    pub led_moved : (reply : BookReply) → IsTrue (is_lead reply) → prompt_led (reply_renumbered f reply) ≡ f (prompt_led reply)
    led_moved (Lead p o) is = refl
    led_moved reply is = absurd (false≢true is)

    taken_from_moved : (reply : BookReply) → taken_from (reply_renumbered f reply) ≡ reply_renumbered f (taken_from reply)
    taken_from_moved (Given gift gone) = refl
    taken_from_moved (Follow p) = refl
    taken_from_moved (Lead p o) = refl
    taken_from_moved reply = refl

    -- SETTLED PROMPTS

    settles_agrees : (p : ℕ) → IsTrue (owns p) → (entry : Entry) → Apart entry → Agrees f keep (λ e. settles e.call p) (λ e. settles e.call (f p)) entry
    settles_agrees p own entry apart = record { out = λ out. (apart.out out p own).settled; within = λ is. settles_moved entry.call (apart.settled is) p own }

    pub settled_shrunk : (past : List Entry) → All Apart past → (p : ℕ) → IsTrue (owns p) → settled (shrink f keep past) (f p) ≡ settled past p
    settled_shrunk past all p own =
        any_shrunk f keep (λ e. settles e.call p) (λ e. settles e.call (f p)) past (agrees_all f keep Apart (λ e. settles e.call p) (λ e. settles e.call (f p)) (settles_agrees p own) past all)

    ended : (o : Option Entry) → unwrap_or (option_map (λ (e : Entry). taken_from e.reply) (option_map (renumbered f) o)) Pending ≡ reply_renumbered f (unwrap_or (option_map (λ (e : Entry). taken_from e.reply) o) Pending)
    ended None = refl
    ended (Some entry) = taken_from_moved entry.reply

    pub end_shrunk : (past : List Entry) → All Apart past → (p : ℕ) → IsTrue (owns p) → end (shrink f keep past) (f p) ≡ reply_renumbered f (end past p)
    end_shrunk past all p own =
        ap (λ o. unwrap_or (option_map (λ (e : Entry). taken_from e.reply) o) Pending)
        (find_shrunk f keep (λ e. settles e.call p) (λ e. settles e.call (f p)) past (agrees_all f keep Apart (λ e. settles e.call p) (λ e. settles e.call (f p)) (settles_agrees p own) past all))
        ∙ ended (find (λ e. settles e.call p) past)

    -- THE LEAD OF A PROMPT

    lead_agrees : (p : ℕ) → IsTrue (owns p) → (entry : Entry) → Apart entry → Agrees f keep (λ e. is_lead e.reply && prompt_led e.reply == p) (λ e. is_lead e.reply && prompt_led e.reply == f p) entry
    lead_agrees p own entry apart =
        record {
          out = λ out. (apart.out out p own).led;
          within = λ is.
              ap (λ b. b && prompt_led (reply_renumbered f entry.reply) == f p) (lead_moved f entry.reply)
              ∙ and_same (is_lead entry.reply) _ _ (λ led. ap (λ n. n == f p) (led_moved entry.reply led) ∙ numbering.once (prompt_led entry.reply) p (apart.led is led) own);
        }

    pub lead_shrunk : (past : List Entry) → All Apart past → (p : ℕ) → IsTrue (owns p) → lead (shrink f keep past) (f p) ≡ option_map (renumbered f) (lead past p)
    lead_shrunk past all p own =
        find_shrunk f keep (λ e. is_lead e.reply && prompt_led e.reply == p) (λ e. is_lead e.reply && prompt_led e.reply == f p) past
        (agrees_all f keep Apart (λ e. is_lead e.reply && prompt_led e.reply == p) (λ e. is_lead e.reply && prompt_led e.reply == f p) (lead_agrees p own) past all)

    pub space_shrunk : (past : List Entry) → All Apart past → (p : ℕ) → IsTrue (owns p) → space_of_prompt (shrink f keep past) (f p) ≡ space_of_prompt past p
    space_shrunk past all p own =
        ap (λ o. unwrap_or (option_map (λ (e : Entry). space_selected e.call) o) 0) (lead_shrunk past all p own) ∙ by (lead past p)
      where
        by : (o : Option Entry) → unwrap_or (option_map (λ (e : Entry). space_selected e.call) (option_map (renumbered f) o)) 0 ≡ unwrap_or (option_map (λ (e : Entry). space_selected e.call) o) 0
        by None = refl
        by (Some entry) = space_selected_moved f entry.call

    pub led_by_shrunk : (past : List Entry) → All Apart past → (r p : ℕ) → IsTrue (owns p) → is_led_by (shrink f keep past) r (f p) ≡ is_led_by past r p
    led_by_shrunk past all r p own =
        ap (λ o. unwrap_or (option_map (λ (e : Entry). e.request == r) o) false) (lead_shrunk past all p own) ∙ by (lead past p)
      where
        by : (o : Option Entry) → unwrap_or (option_map (λ (e : Entry). e.request == r) (option_map (renumbered f) o)) false ≡ unwrap_or (option_map (λ (e : Entry). e.request == r) o) false
        by None = refl
        by (Some entry) = refl

    -- OPEN PROMPTS

    open_moved : (past : List Entry) → All Apart past → (entry : Entry) → Apart entry → IsTrue (keep entry) → (is_lead (reply_renumbered f entry.reply) && not (settled (shrink f keep past) (prompt_led (reply_renumbered f entry.reply)))) ≡ (is_lead entry.reply && not (settled past (prompt_led entry.reply)))
    open_moved past all entry apart is =
        ap (λ b. b && not (settled (shrink f keep past) (prompt_led (reply_renumbered f entry.reply)))) (lead_moved f entry.reply)
        ∙ and_same (is_lead entry.reply) _ _ (λ led. ap (λ n. not (settled (shrink f keep past) n)) (led_moved entry.reply led) ∙ ap not (settled_shrunk past all (prompt_led entry.reply) (apart.led is led)))

    -- WAITING

    module _ (r : ℕ) (here : (entry : Entry) → IsTrue (entry.request == r) → IsTrue (keep entry)) where
      taken_shrunk : (past : List Entry) → All Apart past → (p : ℕ) → IsTrue (owns p) → list_any (λ later. takes later.call (f p)) (own (shrink f keep past) r) ≡ list_any (λ later. takes later.call p) (own past r)
      taken_shrunk past all p own =
          own_shrunk r here Apart (λ e. takes e.call p) (λ e. takes e.call (f p)) (λ entry apart is. takes_moved entry.call (apart.taken is) p own) past all

      follows_moved : (past : List Entry) → All Apart past → (entry : Entry) → Apart entry → IsTrue (keep entry) →
          (not (prompt_followed (reply_renumbered f entry.reply) == 0) && not (list_any (λ later. takes later.call (prompt_followed (reply_renumbered f entry.reply))) (own (shrink f keep past) r)))
          ≡ (not (prompt_followed entry.reply == 0) && not (list_any (λ later. takes later.call (prompt_followed entry.reply)) (own past r)))
      follows_moved past all entry apart is =
          at entry.reply (apart.followed is)
        where
          waits_for : List Entry → ℕ → Bool
          waits_for entries p = not (p == 0) && not (list_any (λ later. takes later.call p) (own entries r))

          at : (reply : BookReply) → (IsTrue (is_follow reply) → IsTrue (owns (prompt_followed reply))) → waits_for (shrink f keep past) (prompt_followed (reply_renumbered f reply)) ≡ waits_for past (prompt_followed reply)
          at (Follow p) own_p =
              ap (λ b. not b && not (list_any (λ later. takes later.call (f p)) (own (shrink f keep past) r))) (numbering.some p (own_p refl) ∙ sym (own_some p (own_p refl)))
              ∙ ap (λ b. not (p == 0) && not b) (taken_shrunk past all p (own_p refl))
          at reply own_p = refl

      pub waits_shrunk : (past : List Entry) → All Apart past → waits (shrink f keep past) r ≡ waits past r
      waits_shrunk past all =
          let leads = own_shrunk r here Apart (λ e. is_lead e.reply && not (settled past (prompt_led e.reply))) (λ e. is_lead e.reply && not (settled (shrink f keep past) (prompt_led e.reply))) (open_moved past all) past all in
          let follows = own_shrunk r here Apart (λ e. not (prompt_followed e.reply == 0) && not (list_any (λ later. takes later.call (prompt_followed e.reply)) (own past r))) (λ e. not (prompt_followed e.reply == 0) && not (list_any (λ later. takes later.call (prompt_followed e.reply)) (own (shrink f keep past) r))) (follows_moved past all) past all in
          ap (λ b. b || list_any (λ e. not (prompt_followed e.reply == 0) && not (list_any (λ later. takes later.call (prompt_followed e.reply)) (own (shrink f keep past) r))) (own (shrink f keep past) r)) leads
          ∙ ap (λ b. list_any (λ e. is_lead e.reply && not (settled past (prompt_led e.reply))) (own past r) || b) follows

    -- THE PROMPTS OF A SPACE

    module _ (mine : ℕ → Bool) (s : ℕ) (own_s : IsTrue (mine s)) where
      abbrev Both : Entry → Type 0
      Both entry = IsApart keep mine entry × IsPromptApart keep owns entry

      pub leads_of_shrunk : (past : List Entry) → All Both past → leads_of (shrink f keep past) s ≡ leads_of past s
      leads_of_shrunk past all =
          count_shrunk f keep (λ e. is_lead e.reply && selects e.call s) (λ e. is_lead e.reply && selects e.call s) past
          (agrees_all f keep Both (λ e. is_lead e.reply && selects e.call s) (λ e. is_lead e.reply && selects e.call s) (λ entry apart.
          record {
            out = λ out. ap (λ b. is_lead entry.reply && b) (apart.0.out out s own_s).selected ∙ and-false (is_lead entry.reply);
            within = λ is. ap (λ b. b && selects (call_renumbered f entry.call) s) (lead_moved f entry.reply) ∙ ap (λ b. is_lead entry.reply && b) (selects_moved f entry.call s);
          }) past all)

      pub open_lead_shrunk : (past : List Entry) → All Both past → All Apart past → open_lead (shrink f keep past) s ≡ option_map (renumbered f) (open_lead past s)
      open_lead_shrunk past all prompts =
          find_shrunk f keep (λ e. is_lead e.reply && selects e.call s && not (settled past (prompt_led e.reply))) (λ e. is_lead e.reply && selects e.call s && not (settled (shrink f keep past) (prompt_led e.reply))) past
          (agrees_all f keep Both (λ e. is_lead e.reply && selects e.call s && not (settled past (prompt_led e.reply))) (λ e. is_lead e.reply && selects e.call s && not (settled (shrink f keep past) (prompt_led e.reply))) (λ entry apart.
          record {
            out = λ out. ap (λ b. is_lead entry.reply && b && not (settled past (prompt_led entry.reply))) (apart.0.out out s own_s).selected ∙ middle_none (is_lead entry.reply) (not (settled past (prompt_led entry.reply)));
            within = λ is.
                ap (λ b. is_lead (reply_renumbered f entry.reply) && b && not (settled (shrink f keep past) (prompt_led (reply_renumbered f entry.reply)))) (selects_moved f entry.call s)
                ∙ swapped (is_lead (reply_renumbered f entry.reply)) (is_lead entry.reply) (selects entry.call s) (not (settled (shrink f keep past) (prompt_led (reply_renumbered f entry.reply)))) (not (settled past (prompt_led entry.reply))) (open_moved past prompts entry apart.1 is);
          }) past all)
