-- What a queue keeps when a prompt ends, and when room is made for spaces.
use Rattle.std.proofs.Common.{◌≡◌, ℕ, ◌+◌, ◌-◌, ◌<◌, ◌≤◌, Bool, true, false, cond, List, [], ◌∷◌, ◌++◌, length, replicate, refl, ap, sym, subst, ◌∙◌, arith, Some, None, ◌==◌, ◌&&◌, inl, inr}
use Rattle.std.specs.Prelude.{All, option_map, unwrap_or}
use Rattle.std.proofs.lemmas.Bool.{cases_lt, ne_eqb}
use Rattle.std.proofs.lemmas.List.{length-map, length-append, length-replicate, get_or_append_left, get_or-append_right, get_or-replicate}
use Rattle.std.proofs.lemmas.List.Elements.{All-head, All-tail, All-map, All-weaker}
use Rattle.std.proofs.lemmas.List.Sums.{sum_by-cons}
use Rattle.prompt_queue.specs.declared.queue.Prompt.{Prompt}
use Rattle.prompt_queue.specs.declared.queue.PromptTake.{PromptTake}
use Rattle.prompt_queue.specs.declared.queue.Row.{Row}
use Rattle.prompt_queue.specs.Prompts.{is_pending, is_open_in, open_prompt, led_in, ended, with_ending}
use Rattle.prompt_queue.specs.Rows.{latest, latest_number, AreNumbered, AreApart, AreKept}

-- ONE PROMPT ENDS

same_space : (p : ℕ) (outcome : PromptTake) (q : Prompt) → (ended p outcome q).space ≡ q.space
same_space p outcome q = here (q.number == p)
  where
    here : (b : Bool) → (cond b (record q { ending = outcome }) q).space ≡ q.space
    here true = refl
    here false = refl

same_number : (p : ℕ) (outcome : PromptTake) (q : Prompt) → (ended p outcome q).number ≡ q.number
same_number p outcome q = here (q.number == p)
  where
    here : (b : Bool) → (cond b (record q { ending = outcome }) q).number ≡ q.number
    here true = refl
    here false = refl

numbered_still : (prompts : List Prompt) (p : ℕ) (outcome : PromptTake) → AreNumbered prompts → AreNumbered (with_ending prompts p outcome)
numbered_still [] p outcome numbers = numbers
numbered_still (first ∷ earlier) p outcome numbers =
    (same_number p outcome first ∙ (numbers.0 ∙ ap (λ n. n + 1) (sym (length-map earlier (ended p outcome)))), numbered_still earlier p outcome numbers.1)

none_open_still : (prompts : List Prompt) (p : ℕ) (outcome : PromptTake) (s : ℕ) → is_pending outcome ≡ false → open_prompt prompts s ≡ None → open_prompt (with_ending prompts p outcome) s ≡ None
none_open_still [] p outcome s ends none = refl
none_open_still (first ∷ earlier) p outcome s ends none =
    here (first.number == p) (is_open_in s first) refl none (λ more. none_open_still earlier p outcome s ends more)
  where
    closed : (b : Bool) → b && false ≡ false
    closed true = refl
    closed false = refl

    here : (b c : Bool) → is_open_in s first ≡ c → cond c (Some first) (open_prompt earlier s) ≡ None → (open_prompt earlier s ≡ None → open_prompt (with_ending earlier p outcome) s ≡ None) → open_prompt (cond b (record first { ending = outcome }) first ∷ with_ending earlier p outcome) s ≡ None
    here b true same is next = absurd cc
    here true false same is next =
        ap (λ t. cond t (Some (record first { ending = outcome })) (open_prompt (with_ending earlier p outcome) s)) (ap (λ t. first.space == s && t) ends ∙ closed (first.space == s)) ∙ next is
    here false false same is next = ap (λ t. cond t (Some first) (open_prompt (with_ending earlier p outcome) s)) same ∙ next is

apart_still : (prompts : List Prompt) (p : ℕ) (outcome : PromptTake) → is_pending outcome ≡ false → AreApart prompts → AreApart (with_ending prompts p outcome)
apart_still [] p outcome ends apart = apart
apart_still (first ∷ earlier) p outcome ends apart =
    (subst (λ s. open_prompt (with_ending earlier p outcome) s ≡ None) (sym (same_space p outcome first)) (none_open_still earlier p outcome first.space ends apart.0), apart_still earlier p outcome ends apart.1)

latest_still : (prompts : List Prompt) (p : ℕ) (outcome : PromptTake) (s : ℕ) → latest_number (with_ending prompts p outcome) s ≡ latest_number prompts s
latest_still [] p outcome s = refl
latest_still (first ∷ earlier) p outcome s =
    ap (λ n. unwrap_or (option_map (λ prompt. prompt.number) (cond (n == s) (Some (ended p outcome first)) (latest (with_ending earlier p outcome) s))) 0) (same_space p outcome first) ∙ here (first.space == s) (latest_still earlier p outcome s)
  where
    here : (b : Bool) → latest_number (with_ending earlier p outcome) s ≡ latest_number earlier s → unwrap_or (option_map (λ prompt. prompt.number) (cond b (Some (ended p outcome first)) (latest (with_ending earlier p outcome) s))) 0 ≡ unwrap_or (option_map (λ prompt. prompt.number) (cond b (Some first) (latest earlier s))) 0
    here true next = same_number p outcome first
    here false next = next

led_still : (prompts : List Prompt) (p : ℕ) (outcome : PromptTake) (s : ℕ) → led_in (with_ending prompts p outcome) s ≡ led_in prompts s
led_still [] p outcome s = refl
led_still (first ∷ earlier) p outcome s =
    sum_by-cons (λ prompt. cond (prompt.space == s) 1 0) (ended p outcome first) (with_ending earlier p outcome)
    ∙ (ap (λ n. cond (n == s) 1 0 + led_in (with_ending earlier p outcome) s) (same_space p outcome first)
    ∙ (ap (λ n. cond (first.space == s) 1 0 + n) (led_still earlier p outcome s)
    ∙ sym (sum_by-cons (λ prompt. cond (prompt.space == s) 1 0) first earlier)))

same_row : (n n' l l' : ℕ) → n ≡ n' → l ≡ l' → ◌≡◌ {A = Row} (record { latest = n; led = l }) (record { latest = n'; led = l' })
same_row n n' l l' same_n same_l = cc

pub kept_ended : (rows : List Row) (prompts : List Prompt) (p : ℕ) (outcome : PromptTake) → is_pending outcome ≡ false → AreKept rows prompts → AreKept rows (with_ending prompts p outcome)
kept_ended rows prompts p outcome ends kept = record {
  numbered = numbered_still prompts p outcome kept.numbered;
  apart = apart_still prompts p outcome ends kept.apart;
  within = All-map (λ prompt. prompt.space < length rows) (ended p outcome) prompts (All-weaker (λ prompt. prompt.space < length rows) (λ prompt. (ended p outcome prompt).space < length rows) (λ prompt less. subst (λ n. n < length rows) (sym (same_space p outcome prompt)) less) prompts kept.within);
  each = λ s other less. kept.each s other less ∙ sym (same_row _ _ _ _ (latest_still prompts p outcome s) (led_still prompts p outcome s));
}

-- ROOM FOR SPACES

none_latest : (prompts : List Prompt) (n s : ℕ) → All (λ prompt. prompt.space < n) prompts → n ≤ s → latest prompts s ≡ None
none_latest [] n s within past = refl
none_latest (first ∷ earlier) n s within past =
    let less : first.space < n = All-head (λ prompt. prompt.space < n) first earlier within in
    ap (λ b. cond b (Some first) (latest earlier s)) (ne_eqb first.space s (λ same. omega arith)) ∙ none_latest earlier n s (All-tail (λ prompt. prompt.space < n) first earlier within) past

none_led : (prompts : List Prompt) (n s : ℕ) → All (λ prompt. prompt.space < n) prompts → n ≤ s → led_in prompts s ≡ 0
none_led [] n s within past = refl
none_led (first ∷ earlier) n s within past =
    let less : first.space < n = All-head (λ prompt. prompt.space < n) first earlier within in
    let counted = sum_by-cons (λ prompt. cond (prompt.space == s) 1 0) first earlier in
    let other : ◌≡◌ {A = ℕ} (cond (first.space == s) 1 0) 0 = ap (λ b. cond b 1 0) (ne_eqb first.space s (λ same. omega arith)) in
    omega (arith, counted, other, none_led earlier n s (All-tail (λ prompt. prompt.space < n) first earlier within) past)

abbrev no_row : Row
no_row = record { latest = 0; led = 0 }

pub kept_with_room : (rows : List Row) (prompts : List Prompt) (more : ℕ) → AreKept rows prompts → AreKept (rows ++ replicate more (record { latest = 0; led = 0 })) prompts
kept_with_room rows prompts more kept = record {
  numbered = kept.numbered;
  apart = kept.apart;
  within = All-weaker (λ prompt. prompt.space < length rows) (λ prompt. prompt.space < length (rows ++ replicate more no_row)) (λ prompt less. omega (arith, length-append rows (replicate more no_row))) prompts kept.within;
  each = λ s other less. elim (cases_lt s (length rows)) [
    | inl old ↦ get_or_append_left rows _ other s old ∙ kept.each s other old
    | inr new ↦ get_or-append_right rows (replicate more no_row) (length rows) s other refl new
        ∙ (get_or-replicate more (s - length rows) no_row other (omega (arith, less, length-append rows (replicate more no_row), length-replicate more no_row))
        ∙ sym (same_row _ _ _ _ (ap (λ found. unwrap_or (option_map (λ prompt. prompt.number) found) 0) (none_latest prompts (length rows) s kept.within new)) (none_led prompts (length rows) s kept.within new)))
  ];
}
