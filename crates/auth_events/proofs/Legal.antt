-- A legal journal, and one entry more.
use Rattle.std.proofs.Common.{◌≡◌, ℕ, ◌<◌, ◌≤◌, ◌≢◌, Bool, true, false, not, ◌&&◌, cond, List, [], ◌∷◌, ◌++◌, length, refl, ap, sym, subst, ◌∙◌, inl, inr, arith, Option, Some, None}
use Rattle.std.specs.Prelude.{All, count_by, filter, find, reverse, IsTrue, ◌==◌, option_map, unwrap_or, is_some, nat_lt}
use Rattle.std.specs.List.{list_any, list_all}
use Rattle.std.proofs.lemmas.List.{reverse-append, reverse-reverse}
use Rattle.std.proofs.lemmas.List.Sums.{length-filter, sum_by-cons, sum_by_push}
use Rattle.std.proofs.lemmas.List.Elements.{All-head, All-tail, All-nil, All-cons, All-push}
use Rattle.std.proofs.lemmas.Bool.Decides.{nat_tests}
use Rattle.std.proofs.lemmas.Bool.{false≢true, cases_eq}
use Rattle.spaces.specs.Sites.{numbered}
use Rattle.spaces.specs.declared.roster.Roster.{Roster}
use Rattle.spaces.specs.declared.site.Target.{Target}
use Rattle.auth_events.specs.declared.journal.Gift.{Gift}
use Rattle.auth_events.specs.declared.journal.Entry.{Entry}
use Rattle.auth_events.specs.declared.journal.Call.{Call}
use Rattle.auth_events.specs.declared.journal.Call.TheVariants.{Begin, Preempt, Select, Reject, Renew, Answer, Lose, Take, Note, End, Draw}
use Rattle.auth_events.specs.declared.journal.BookReply.{BookReply}
use Rattle.auth_events.specs.declared.journal.BookReply.TheVariants.{Removed, Kept, Renewed, Given, Cancelled, Lost, Pending, Noted}
use Rattle.auth_events.specs.Tables.{Tables}
use Rattle.auth_events.specs.Pages.{IsPage, IsWithinRoom, HasRoomFor, count_of, fits}
use Rattle.auth_events.specs.Past.{current, end, settles, taken_from}
use Rattle.auth_events.specs.Told.{is_pending}
use Rattle.auth_events.proofs.Numbers.{and_left, and_right, both, numbered_in}
use Rattle.auth_events.specs.Book.{Choice, IsLegal, IsLegalPast, allowed, allowed_call, answer, own, draws, is_rival, begins, ends, no_entry, is_open, preempt_answer, ready, select_answer, choice}
use Rattle.auth_events.specs.Book.Choice.{ByUrl, ByCache, ByDefault, ByFollowing, ByLeading}

-- an entry more is legal where it was allowed and has its answer
pub IsLegal-push : (roster : Roster) (names : Tables) (journal : List Entry) (entry : Entry) → IsLegalPast roster names (reverse journal) → IsTrue (allowed roster names (reverse journal) entry.caller entry.request entry.call) → entry.reply ≡ answer roster names (reverse journal) entry.request entry.call → IsTrue (fits entry.call entry.reply) → IsLegalPast roster names (reverse (journal ++ entry ∷ []))
IsLegal-push roster names journal entry legal may is_answer fit =
    subst (λ past. IsLegalPast roster names past) (sym (reverse-append journal (entry ∷ []))) (legal, (may, is_answer, fit))

pub All-reverse : (P : Entry → Type 0) (xs : List Entry) → All P xs → All P (reverse xs)
All-reverse P [] all = all
All-reverse P (x ∷ xs) all =
    subst (λ ys. All P ys) (sym (reverse-append (x ∷ []) xs)) (All-push P (reverse xs) x (All-reverse P xs (All-tail P x xs all)) (All-head P x xs all))

pub fits_no_draw : (call : Call) (reply : BookReply) → IsTrue (fits call reply) → draws call ≡ false
fits_no_draw Begin reply fit = refl
fits_no_draw (Preempt target) reply fit = refl
fits_no_draw (Select space terms) reply fit = refl
fits_no_draw (Reject space ordinal) reply fit = refl
fits_no_draw (Renew gift terms) reply fit = refl
fits_no_draw (Answer prompt text terms) reply fit = refl
fits_no_draw (Lose prompt loss) reply fit = refl
fits_no_draw (Take prompt) reply fit = refl
fits_no_draw (Note gift) reply fit = refl
fits_no_draw End reply fit = refl
fits_no_draw (Draw nonce) reply fit = absurd (false≢true fit)

count_by-reverse : (p : Entry → Bool) (xs : List Entry) → count_by p (reverse xs) ≡ count_by p xs
count_by-reverse p [] = refl
count_by-reverse p (x ∷ xs) =
    ap (count_by p) (reverse-append (x ∷ []) xs)
    ∙ omega (arith, sum_by_push (λ e. cond (p e) 1 0) (reverse xs) x, sum_by-cons (λ e. cond (p e) 1 0) x xs, count_by-reverse p xs)

pub length-own : (r : ℕ) (entries : List Entry) → length (own (reverse entries) r) ≡ count_of r entries
length-own r entries =
    length-filter (λ entry. entry.request == r) (reverse entries) ∙ count_by-reverse (λ entry. entry.request == r) entries

other_request : (r : ℕ) (entry : Entry) → entry.request ≢ r → ◌≡◌ {A = ℕ} (cond (entry.request == r) 1 0) 0
other_request r entry other = grind (arith, nat_tests)

in_range : (n r : ℕ) (entries : List Entry) → All (IsPage n) entries → 0 < count_of r entries → (1 ≤ r) × (r ≤ n)
in_range n r [] pages some = absurd (omega arith)
in_range n r (entry ∷ entries) pages some =
    let page : IsPage n entry = All-head (IsPage n) entry entries pages in
    let later = λ (more : 0 < count_of r entries). in_range n r entries (All-tail (IsPage n) entry entries pages) more in
    let counted = sum_by-cons (λ e. cond (e.request == r) 1 0) entry entries in
    elim (cases_eq entry.request r) [
      | inl same ↦ subst (λ k. (1 ≤ k) × (k ≤ n)) same (page.from_one, page.in_roster)
      | inr other ↦ later (omega (arith, counted, other_request r entry other))
    ]

-- the reply of a call stands in its row of the table

fits_ready : (names : Tables) (past : List Entry) (s : ℕ) (target : Target) (held : Option Gift) → IsTrue (fits (Preempt target) (ready names past s held))
fits_ready names past s target None = refl
fits_ready names past s target (Some gift) = refl

fits_preempt : (names : Tables) (past : List Entry) (target : Target) (s : Option ℕ) → IsTrue (fits (Preempt target) (preempt_answer names past s))
fits_preempt names past target None = refl
fits_preempt names past target (Some s) = fits_ready names past s target (current past s)

fits_select : (rival : ℕ → Bool) (past : List Entry) (s t : ℕ) (how : Choice) → IsTrue (fits (Select s t) (select_answer rival past s how))
fits_select rival past s t ByUrl = refl
fits_select rival past s t (ByCache gift) = refl
fits_select rival past s t ByDefault = refl
fits_select rival past s t (ByFollowing p) = refl
fits_select rival past s t ByLeading = refl

fits_if : (call : Call) (b : Bool) (x y : BookReply) → IsTrue (fits call x) → IsTrue (fits call y) → IsTrue (fits call (cond b x y))
fits_if call true x y fx fy = fx
fits_if call false x y fx fy = fy

-- what settles a prompt is an answer or a loss
fits_settled : (call : Call) (reply : BookReply) (p : ℕ) → IsTrue (fits call reply) → IsTrue (settles call p) → IsTrue (fits (Take p) (taken_from reply))
fits_settled Begin reply p fit settled = absurd (false≢true settled)
fits_settled (Preempt target) reply p fit settled = absurd (false≢true settled)
fits_settled (Select space terms) reply p fit settled = absurd (false≢true settled)
fits_settled (Reject space ordinal) reply p fit settled = absurd (false≢true settled)
fits_settled (Renew gift terms) reply p fit settled = absurd (false≢true settled)
fits_settled (Answer prompt text terms) (Given gift evicted) p fit settled = refl
fits_settled (Answer prompt text terms) Cancelled p fit settled = refl
fits_settled (Answer prompt text terms) reply p fit settled = absurd (false≢true fit)
fits_settled (Lose prompt loss) (Lost told) p fit settled = refl
fits_settled (Lose prompt loss) reply p fit settled = absurd (false≢true fit)
fits_settled (Take prompt) reply p fit settled = absurd (false≢true settled)
fits_settled (Note gift) reply p fit settled = absurd (false≢true settled)
fits_settled End reply p fit settled = absurd (false≢true settled)
fits_settled (Draw nonce) reply p fit settled = absurd (false≢true settled)

fits_end : (n p : ℕ) (past : List Entry) → All (IsPage n) past → is_pending (end past p) ≡ false → IsTrue (fits (Take p) (end past p))
fits_end n p [] pages done = absurd (false≢true (sym done))
fits_end n p (entry ∷ past) pages done = at (settles entry.call p) refl done (λ more. fits_end n p past (All-tail (IsPage n) entry past pages) more)
  where
    page : IsPage n entry
    page = All-head (IsPage n) entry past pages

    found : Bool → BookReply
    found b = unwrap_or (option_map (λ e. taken_from e.reply) (cond b (Some entry) (find (λ e. settles e.call p) past))) Pending

    at : (b : Bool) → settles entry.call p ≡ b → is_pending (found b) ≡ false → (is_pending (end past p) ≡ false → IsTrue (fits (Take p) (end past p))) → IsTrue (fits (Take p) (found b))
    at true is done' later = fits_settled entry.call entry.reply p page.fit is
    at false is done' later = later done'

fits_answer : (roster : Roster) (names : Tables) (n r : ℕ) (past : List Entry) (call : Call) → All (IsPage n) past → IsTrue (allowed_call roster names past r call) → is_pending (answer roster names past r call) ≡ false → IsTrue (fits call (answer roster names past r call))
fits_answer roster names n r past Begin pages may done = refl
fits_answer roster names n r past (Preempt target) pages may done = fits_preempt names past target _
fits_answer roster names n r past (Select space t) pages may done = fits_select (is_rival names space) past space t (choice roster names past r space)
fits_answer roster names n r past (Reject space ordinal) pages may done = fits_if (Reject space ordinal) _ Removed (Kept _) refl refl
fits_answer roster names n r past (Renew gift t) pages may done = fits_if (Renew gift t) _ Renewed (Kept _) refl refl
fits_answer roster names n r past (Answer prompt text t) pages may done = fits_if (Answer prompt text t) _ Cancelled (Given _ _) refl refl
fits_answer roster names n r past (Lose prompt loss) pages may done = refl
fits_answer roster names n r past (Take prompt) pages may done = fits_end n prompt past pages done
fits_answer roster names n r past (Note gift) pages may done = fits_if (Note gift) _ Noted (Kept _) refl refl
fits_answer roster names n r past End pages may done = refl
fits_answer roster names n r past (Draw nonce) pages may done = absurd (false≢true may)

-- the past of a legal journal has no draws
filter_all : (p : Entry → Bool) (xs : List Entry) → All (λ x. IsTrue (p x)) xs → filter p xs ≡ xs
filter_all p [] all = refl
filter_all p (x ∷ xs) all =
    ap (λ b. cond b (x ∷ filter p xs) (filter p xs)) (All-head (λ y. IsTrue (p y)) x xs all) ∙ ap (λ ys. x ∷ ys) (filter_all p xs (All-tail (λ y. IsTrue (p y)) x xs all))

pub all_pass : (p : Entry → Bool) (xs : List Entry) → All (λ x. IsTrue (p x)) xs → IsTrue (list_all p xs)
all_pass p [] all = refl
all_pass p (x ∷ xs) all = both (p x) (list_all p xs) (All-head (λ y. IsTrue (p y)) x xs all) (all_pass p xs (All-tail (λ y. IsTrue (p y)) x xs all))

abbrev pub IsNoDraw : Entry → Type 0
IsNoDraw entry = IsTrue (not (draws entry.call))

no_draws_past : (roster : Roster) (names : Tables) (past : List Entry) → IsLegalPast roster names past → All IsNoDraw past
no_draws_past roster names [] legal = All-nil IsNoDraw
no_draws_past roster names (entry ∷ past) legal =
    All-cons IsNoDraw entry past (ap not (fits_no_draw entry.call entry.reply legal.1.2)) (no_draws_past roster names past legal.0)

pub no_draws : (roster : Roster) (names : Tables) (journal : List Entry) → IsLegalPast roster names (reverse journal) → All IsNoDraw journal
no_draws roster names journal legal =
    subst (λ entries. All IsNoDraw entries) (reverse-reverse journal) (All-reverse IsNoDraw (reverse journal) (no_draws_past roster names (reverse journal) legal))

-- a journal whose past is legal is a legal history
pub IsLegal-journal : (roster : Roster) (names : Tables) (journal : List Entry) → IsLegalPast roster names (reverse journal) → IsLegal roster names journal
IsLegal-journal roster names journal legal =
    subst (λ entries. IsLegalPast roster names (reverse entries)) (sym (filter_all (λ entry. not (draws entry.call)) journal (no_draws roster names journal legal))) legal

-- there is room for the entry of an allowed call

some_of : (p : Entry → Bool) (xs : List Entry) → IsTrue (list_any p xs) → 0 < length xs
some_of p [] any = absurd (false≢true any)
some_of p (x ∷ xs) any = omega arith

lt_of : (a b : ℕ) → IsTrue (nat_lt a b) → a < b
lt_of a b test = grind (arith, nat_tests)

zero_of : (a : ℕ) → IsTrue (a == 0) → a ≡ 0
zero_of a test = grind (arith, nat_tests)

module _ (roster : Roster) (names : Tables) (n caller r : ℕ) (journal : List Entry) (pages : All (IsPage n) journal) (all : n ≡ length roster.requests) where
  abbrev Room : Type 0
  Room = (1 ≤ r) × (r ≤ n) × (count_of r journal < 64)

  room_open : IsTrue (is_open (reverse journal) caller r) → Room
  room_open opened =
      let begins_it = λ (entry : Entry). begins entry.call && entry.caller == caller in
      let ours = own (reverse journal) r in
      let begun = and_left (list_any begins_it ours) (not (list_any (λ entry. ends entry.call) ours)) (and_left _ (nat_lt (length ours) 64) opened) in
      let some = some_of begins_it ours begun in
      let few : length ours < 64 = lt_of (length ours) 64 (and_right (list_any begins_it ours && not (list_any (λ entry. ends entry.call) ours)) _ opened) in
      let counted = length-own r journal in
      let range : (1 ≤ r) × (r ≤ n) = in_range n r journal pages (omega (arith, some, counted)) in
      (range.0, range.1, omega (arith, few, counted))

  room_of : (call : Call) → IsTrue (allowed roster names (reverse journal) caller r call) → Room
  room_of Begin may =
      let range : (1 ≤ r) × (r ≤ length roster.requests) = numbered_in roster.requests r (and_right (no_entry (reverse journal) r) (is_some (numbered roster.requests r)) may) in
      let none = zero_of (length (own (reverse journal) r)) (and_left (no_entry (reverse journal) r) (is_some (numbered roster.requests r)) may) in
      (range.0, omega arith, omega (arith, none, length-own r journal))
  room_of (Preempt target) may = room_open (and_left _ _ may)
  room_of (Select space t) may = room_open (and_left _ _ may)
  room_of (Reject space ordinal) may = room_open (and_left _ _ may)
  room_of (Renew gift t) may = room_open (and_left _ _ may)
  room_of (Answer prompt text t) may = room_open (and_left _ _ may)
  room_of (Lose prompt loss) may = room_open (and_left _ _ may)
  room_of (Take prompt) may = room_open (and_left _ _ may)
  room_of (Note gift) may = room_open (and_left _ _ may)
  room_of End may = room_open (and_left _ _ may)
  room_of (Draw nonce) may = room_open (and_left _ _ may)

pub room_for : (roster : Roster) (names : Tables) (n : ℕ) (journal : List Entry) (entry : Entry) → IsWithinRoom n journal → n ≡ length roster.requests → IsTrue (allowed roster names (reverse journal) entry.caller entry.request entry.call) → entry.reply ≡ answer roster names (reverse journal) entry.request entry.call → is_pending entry.reply ≡ false → HasRoomFor (record { requests = n; entries = journal }) entry
room_for roster names n journal entry within all may is_answer done =
    let room = room_of roster names n entry.caller entry.request journal within.pages all entry.call may in
    let reply_fits = fits_answer roster names n entry.request (reverse journal) entry.call (All-reverse (IsPage n) journal within.pages) (and_right _ _ may) (subst (λ reply. is_pending reply ≡ false) is_answer done) in
    record {
      page = record { from_one = room.0; in_roster = room.1; fit = subst (λ reply. IsTrue (fits entry.call reply)) (sym is_answer) reply_fits };
      fewer = room.2;
    }
