-- The lines of a text are cut as they were joined.
use Rattle.std.proofs.Common.{◌≡◌, ℕ, ◌+◌, ◌^◌, ◌<◌, ◌==◌, not, nat_lt, Bool, true, false, List, [], ◌∷◌, ◌++◌, length, map, codes, refl, sym, ap, ◌∙◌, arith, append_assoc}
use Rattle.std.specs.List.{list_all}
use Rattle.std.specs.Fmt.{decimal}
use Rattle.std.proofs.lemmas.Bool.Decides.{nat_tests}
use Rattle.std.proofs.lemmas.List.Folds.{list_all-append}
use Rattle.spaces.specs.declared.place.Origin.{Origin}
use Rattle.spaces.specs.declared.roster.Request.{Request}
use Rattle.spaces.specs.ProtectionSpaces.{ProtectionSpace}
use Rattle.auth_text.specs.Login.{Login}
use Rattle.hex.specs.Hex.{encode_lower}
use Rattle.session_text.specs.Words.{word_of}
use Rattle.report_lines.specs.Words.{origin_text}
use Rattle.auth_events.specs.Pages.{fits}
use Rattle.auth_events.specs.declared.names.TermsName.{TermsName}
use Rattle.auth_events.specs.declared.journal.Entry.{Entry}
use Rattle.auth_runs.specs.declared.event.Event.{Event}
use Rattle.auth_runs.specs.Runs.{Each}
use Rattle.report_lines.specs.RosterLines.{seed_line, default_line, default_lines, request_line, request_lines}
use Rattle.report_lines.specs.NameLines.{space_line, space_lines, terms_line, terms_lines, text_line, text_lines}
use Rattle.report_lines.specs.EntryLines.{entry_line, entry_lines}
use Rattle.report_lines.specs.EventLines.{event_line, event_lines, trace_lines}
use Rattle.report_reading.specs.Cuts.{lines, with_byte}
use Rattle.report_reading.proofs.Tests.{both}
use Rattle.report_laws.specs.Ranges.{are_bytes, OriginHolds, RequestHolds, SpaceHolds, TermsHolds, TextHolds, EntryHolds, EventHolds}
use Rattle.report_laws.specs.Lines.{numbered_lines, all_events}
use Rattle.report_laws.proofs.WordLemmas.{plain, all_plain, joins, spaced, joined, and_true}
use Rattle.report_laws.proofs.LinesAgain.{default_plain, space_words, space_line_is, space_plain}
use Rattle.report_laws.proofs.RosterAgain.{seed_plain, request_words, request_line_is, request_plain}
use Rattle.report_laws.proofs.TermsAgain.{terms_names, terms_line_is, terms_plain}
use Rattle.report_laws.proofs.TextsAgain.{text_words_plain}
use Rattle.report_laws.proofs.EntriesAgain.{entry_words, entry_plain, small_plain}
use Rattle.report_laws.proofs.EntriesAgain as entries
use Rattle.report_laws.proofs.EventWords.{event_names, event_plain}
use Rattle.report_laws.proofs.EventWords as events

-- ONE LINE

-- no byte is a line end
abbrev unended : List ℕ → Bool
unended bytes = list_all (λ b. not (b == 10)) bytes

plain_open : (b : ℕ) → nat_lt 32 b ≡ true → not (b == 10) ≡ true
plain_open b h = grind (arith, nat_tests)

word_open : (w : List ℕ) → plain w ≡ true → unended w ≡ true
word_open [] h = refl
word_open (b ∷ w) h =
    let parts = both (nat_lt 32 b) (plain w) h in and_true _ _ (plain_open b parts.0) (word_open w parts.1)

words_open : (ws : List (List ℕ)) → all_plain ws ≡ true → unended (spaced ws) ≡ true
words_open [] h = refl
words_open (w ∷ ws) h =
    let parts = both (plain w) (all_plain ws) h in
    list_all-append (λ b. not (b == 10)) (32 ∷ w) (spaced ws) ∙ and_true _ _ (word_open w parts.0) (words_open ws parts.1)

joins_open : (key : List ℕ) (ws : List (List ℕ)) → plain key ≡ true → all_plain ws ≡ true → unended (joins key ws) ≡ true
joins_open key ws h hs =
    ap unended (joined key ws) ∙ list_all-append (λ b. not (b == 10)) key (spaced ws) ∙ and_true _ _ (word_open key h) (words_open ws hs)

not_end : (t : Bool) → not t ≡ true → t ≡ false
not_end true h = absurd (cc h)
not_end false h = refl

cut_open : (bytes rest : List ℕ) → unended bytes ≡ true → lines ((bytes ++ 10 ∷ []) ++ rest) ≡ (bytes ++ 10 ∷ []) ∷ lines rest
cut_open [] rest h = refl
cut_open (b ∷ bytes) rest h =
    let parts = both (not (b == 10)) (unended bytes) h in
    ap (with_byte b) (cut_open bytes rest parts.1) ∙ rw (not_end (b == 10) parts.0) refl

-- the line is cut off, whatever stands behind it
abbrev pub IsCut : List ℕ → Type 0
IsCut line = (rest : List ℕ) → lines (line ++ rest) ≡ line ∷ lines rest

pub cut_by : (line key : List ℕ) (ws : List (List ℕ)) → line ≡ joins key ws ++ 10 ∷ [] → plain key ≡ true → all_plain ws ≡ true → IsCut line
cut_by line key ws is h hs rest =
    ap (λ (l : List ℕ). lines (l ++ rest)) is ∙ cut_open (joins key ws) rest (joins_open key ws h hs) ∙ ap (λ (l : List ℕ). l ∷ lines rest) (sym is)

-- EACH KIND

pub seed_cut : (seed : List ℕ) → are_bytes seed ≡ true → IsCut (seed_line seed)
seed_cut seed h = cut_by (seed_line seed) (codes "seed") (encode_lower seed ∷ []) refl refl (seed_plain seed h)

default_cut : (origin : Origin) → OriginHolds origin → IsCut (default_line origin)
default_cut origin h = cut_by (default_line origin) (codes "default") (word_of (origin_text origin) ∷ []) refl refl (default_plain origin h)

request_cut : (n : ℕ) (request : Request) → n < 2 ^ 32 → RequestHolds request → IsCut (request_line n request)
request_cut n request small h =
    cut_by (request_line n request) (codes "request") (request_words n request) (request_line_is n request) refl (request_plain n request small h)

space_cut : (n : ℕ) (space : ProtectionSpace) → n < 2 ^ 32 → SpaceHolds space → IsCut (space_line n space)
space_cut n space small h = cut_by (space_line n space) (codes "space") (space_words n space) (space_line_is n space) refl (space_plain n space small h)

terms_cut : (n : ℕ) (name : TermsName) → n < 2 ^ 32 → TermsHolds name → IsCut (terms_line n name)
terms_cut n name small h = cut_by (terms_line n name) (codes "terms") (terms_names n name) (terms_line_is n name) refl (terms_plain n name small h)

text_cut : (n : ℕ) (text : Login) → n < 2 ^ 32 → TextHolds text → IsCut (text_line n text)
text_cut n text small h = cut_by (text_line n text) (codes "text") (decimal n ∷ word_of text.user ∷ word_of text.password ∷ []) refl refl (text_words_plain n text small h)

entry_cut : (entry : Entry) → EntryHolds entry → fits entry.call entry.reply ≡ true → IsCut (entry_line entry)
entry_cut entry h fit = cut_by (entry_line entry) (codes "e") (entry_words entry) (entries.line_is entry) refl (entry_plain entry h fit)

event_cut : (r : ℕ) (event : Event) → r < 2 ^ 32 → EventHolds event → IsCut (event_line r event)
event_cut r event small h =
    cut_by (event_line r event) (codes "t") (decimal r ∷ event_names event) (events.line_is r event) refl
    (and_true _ _ (small_plain r small) (event_plain event h))

-- LISTS OF LINES

-- a line and those of a list, in front of what stands behind them
one_more : (line more rest : List ℕ) (all : List (List ℕ)) → IsCut line → lines (more ++ rest) ≡ all → lines ((line ++ more) ++ rest) ≡ line ∷ all
one_more line more rest all cut later =
    ap lines (append_assoc line more rest) ∙ cut (more ++ rest) ∙ ap (λ (ls : List (List ℕ)). line ∷ ls) later

pub defaults_cut : (origins : List Origin) (rest : List ℕ) → Each OriginHolds origins → lines (default_lines origins ++ rest) ≡ map default_line origins ++ lines rest
defaults_cut [] rest h = refl
defaults_cut (x ∷ xs) rest h = one_more (default_line x) (default_lines xs) rest (map default_line xs ++ lines rest) (default_cut x h.0) (defaults_cut xs rest h.1)

pub requests_cut : (n : ℕ) (xs : List Request) (rest : List ℕ) → n + length xs < 2 ^ 32 → Each RequestHolds xs
    → lines (request_lines n xs ++ rest) ≡ numbered_lines request_line n xs ++ lines rest
requests_cut n [] rest small h = refl
requests_cut n (x ∷ xs) rest small h =
    one_more (request_line n x) (request_lines (n + 1) xs) rest (numbered_lines request_line (n + 1) xs ++ lines rest) (request_cut n x (omega (arith, small)) h.0)
    (requests_cut (n + 1) xs rest (omega (arith, small)) h.1)

pub spaces_cut : (n : ℕ) (xs : List ProtectionSpace) (rest : List ℕ) → n + length xs < 2 ^ 32 → Each SpaceHolds xs
    → lines (space_lines n xs ++ rest) ≡ numbered_lines space_line n xs ++ lines rest
spaces_cut n [] rest small h = refl
spaces_cut n (x ∷ xs) rest small h =
    one_more (space_line n x) (space_lines (n + 1) xs) rest (numbered_lines space_line (n + 1) xs ++ lines rest) (space_cut n x (omega (arith, small)) h.0)
    (spaces_cut (n + 1) xs rest (omega (arith, small)) h.1)

pub all_terms_cut : (n : ℕ) (xs : List TermsName) (rest : List ℕ) → n + length xs < 2 ^ 32 → Each TermsHolds xs
    → lines (terms_lines n xs ++ rest) ≡ numbered_lines terms_line n xs ++ lines rest
all_terms_cut n [] rest small h = refl
all_terms_cut n (x ∷ xs) rest small h =
    one_more (terms_line n x) (terms_lines (n + 1) xs) rest (numbered_lines terms_line (n + 1) xs ++ lines rest) (terms_cut n x (omega (arith, small)) h.0)
    (all_terms_cut (n + 1) xs rest (omega (arith, small)) h.1)

pub texts_cut : (n : ℕ) (xs : List Login) (rest : List ℕ) → n + length xs < 2 ^ 32 → Each TextHolds xs
    → lines (text_lines n xs ++ rest) ≡ numbered_lines text_line n xs ++ lines rest
texts_cut n [] rest small h = refl
texts_cut n (x ∷ xs) rest small h =
    one_more (text_line n x) (text_lines (n + 1) xs) rest (numbered_lines text_line (n + 1) xs ++ lines rest) (text_cut n x (omega (arith, small)) h.0)
    (texts_cut (n + 1) xs rest (omega (arith, small)) h.1)

pub entries_cut : (xs : List Entry) (rest : List ℕ) → Each EntryHolds xs → Each (λ entry. fits entry.call entry.reply ≡ true) xs
    → lines (entry_lines xs ++ rest) ≡ map entry_line xs ++ lines rest
entries_cut [] rest h fit = refl
entries_cut (x ∷ xs) rest h fit =
    one_more (entry_line x) (entry_lines xs) rest (map entry_line xs ++ lines rest) (entry_cut x h.0 fit.0) (entries_cut xs rest h.1 fit.1)

pub events_cut : (r : ℕ) (xs : List Event) (rest : List ℕ) → r < 2 ^ 32 → Each EventHolds xs
    → lines (event_lines r xs ++ rest) ≡ map (event_line r) xs ++ lines rest
events_cut r [] rest small h = refl
events_cut r (x ∷ xs) rest small h =
    one_more (event_line r x) (event_lines r xs) rest (map (event_line r) xs ++ lines rest) (event_cut r x small h.0) (events_cut r xs rest small h.1)

pub traces_cut : (r : ℕ) (xs : List (List Event)) (rest : List ℕ) → r + length xs < 2 ^ 32 → Each (λ events. Each EventHolds events) xs
    → lines (trace_lines r xs ++ rest) ≡ all_events r xs ++ lines rest
traces_cut r [] rest small h = refl
traces_cut r (x ∷ xs) rest small h =
    ap lines (append_assoc (event_lines r x) (trace_lines (r + 1) xs) rest)
    ∙ events_cut r x (trace_lines (r + 1) xs ++ rest) (omega (arith, small)) h.0
    ∙ ap (λ (ls : List (List ℕ)). map (event_line r) x ++ ls) (traces_cut (r + 1) xs rest (omega (arith, small)) h.1)
    ∙ sym (append_assoc (map (event_line r) x) (all_events (r + 1) xs) (lines rest))
