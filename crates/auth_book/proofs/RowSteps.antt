-- The rows of spaces and of requests, the prompts' spaces and the epochs, by one entry more.
use Rattle.std.proofs.Common.{◌≡◌, ℕ, ◌+◌, ◌-◌, ◌≤◌, Bool, true, false, ◌&&◌, ◌||◌, cond, List, [], ◌∷◌, ◌++◌, length, refl, ap, sym, subst, ◌∙◌, arith, Option, Some, None}
use Rattle.std.specs.Prelude.{IsTrue, is_some, filter, map, reverse, option_map, ◌==◌}
use Rattle.std.specs.List.{list_any}
use Rattle.std.proofs.lemmas.Bool.{false≢true}
use Rattle.std.proofs.lemmas.List.{reverse-append, length-set}
use Rattle.spaces.specs.declared.roster.Roster.{Roster}
use Rattle.spaces.specs.declared.roster.Request.{Request}
use Rattle.spaces.specs.declared.site.Target.{Target}
use Rattle.spaces.specs.declared.site.Target.TheVariants.{Server, Proxy, Socks}
use Rattle.spaces.specs.ProtectionSpaces.{ProtectionSpace}
use Rattle.spaces.specs.Sites.{numbered, same_target}
use Rattle.auth_events.specs.declared.journal.Gift.{Gift}
use Rattle.auth_events.specs.declared.journal.Entry.{Entry}
use Rattle.auth_events.specs.declared.journal.BookReply.{BookReply}
use Rattle.auth_events.specs.Tables.{Tables}
use Rattle.auth_events.specs.Past.{gift_given, gives, givings, is_lead, is_of}
use Rattle.auth_events.specs.Book.{epoch, is_default, is_url, own, space_selected, takes_out, target_of}
use Rattle.auth_events.proofs.Numbers.{numbered_in}
use Rattle.auth_events.proofs.Same.{number_same, number_refl}
use Rattle.history_laws.proofs.Rooms.{giving_counted}
use Rattle.auth_book.specs.declared.partitions.PartRow.{PartRow}
use Rattle.auth_book.specs.declared.index.SpaceRow.{SpaceRow}
use Rattle.auth_book.specs.declared.index.RequestRow.{RequestRow}
use Rattle.auth_book.specs.Rooms.{set_number}
use Rattle.auth_book.specs.SiteNumbers.{site_no}
use Rattle.auth_book.specs.Indices.{part_no, request_row, space_row, spaces_led}
use Rattle.auth_book.specs.Steps.{epochs_after, epochs_with, given_once_more, led_after, requests_after, requests_with, row_told, rows_after, rows_given, rows_with}
use Rattle.auth_book.proofs.Numbered.{written, others}

-- SPACES

module _ (names : Tables) (parts : List PartRow) (past : List Entry) (entry : Entry) (rows : List SpaceRow) (has : (s : ℕ) → numbered rows s ≡ option_map (λ _. space_row names parts past s) (numbered names.spaces s)) where
  abbrev Counted : List SpaceRow → Type 0
  Counted after = (s : ℕ) → numbered after s ≡ option_map (λ _. space_row names parts (entry ∷ past) s) (numbered names.spaces s)

  row_same : (s : ℕ) → gives entry s ≡ false → space_row names parts (entry ∷ past) s ≡ space_row names parts past s
  row_same s none = ap (λ n. record { site = site_no names s; givings = n; partition = part_no names parts s }) (giving_counted entry past s ∙ (ap (λ b. cond {A = ℕ} b 1 0 + givings past s) none ∙ omega arith))

  not_given : (s : ℕ) → gives entry s ≡ false → numbered rows s ≡ option_map (λ _. space_row names parts (entry ∷ past) s) (numbered names.spaces s)
  not_given s none = has s ∙ ap (λ row. option_map (λ (_ : ProtectionSpace). row) (numbered names.spaces s)) (sym (row_same s none))

  row_more : (s : ℕ) → gives entry s ≡ true → given_once_more (space_row names parts past s) ≡ space_row names parts (entry ∷ past) s
  row_more s given = ap (λ n. record { site = site_no names s; givings = n; partition = part_no names parts s }) (omega (arith, giving_counted entry past s, ap (λ b. cond {A = ℕ} b 1 0) given))

  some_row : (s : ℕ) (row : SpaceRow) (o : Option ProtectionSpace) → Some row ≡ option_map (λ (_ : ProtectionSpace). space_row names parts past s) o → (row ≡ space_row names parts past s) × (option_map (λ (_ : ProtectionSpace). space_row names parts (entry ∷ past) s) o ≡ Some (space_row names parts (entry ∷ past) s))
  some_row s row None is = absurd cc
  some_row s row (Some space) is = (cc, refl)

  no_row : (s : ℕ) (o : Option ProtectionSpace) → None ≡ option_map (λ (_ : ProtectionSpace). space_row names parts past s) o → None ≡ option_map (λ (_ : ProtectionSpace). space_row names parts (entry ∷ past) s) o
  no_row s None is = refl
  no_row s (Some space) is = absurd cc

  pub rows_counted : Counted (rows_after entry.reply rows)
  rows_counted = at (gift_given entry.reply) refl
    where
      of : (gift : Gift) → ((s : ℕ) → gives entry s ≡ (gift.space == s)) → (o : Option SpaceRow) → numbered rows gift.space ≡ o → (s : ℕ) → numbered (rows_with rows gift.space o) s ≡ option_map (λ _. space_row names parts (entry ∷ past) s) (numbered names.spaces s)
      of gift gives_is None none s = by (gift.space == s) refl
        where
          by : (b : Bool) → (gift.space == s) ≡ b → numbered rows s ≡ option_map (λ _. space_row names parts (entry ∷ past) s) (numbered names.spaces s)
          by true same =
              let here : numbered rows s ≡ None = subst (λ n. numbered rows n ≡ None) (number_same gift.space s same) none in
              here ∙ no_row s (numbered names.spaces s) (sym here ∙ has s)
          by false other = not_given s (gives_is s ∙ other)
      of gift gives_is (Some row) some s = by (gift.space == s) refl
        where
          first : 1 ≤ gift.space
          first = (numbered_in rows gift.space (ap is_some some)).0

          by : (b : Bool) → (gift.space == s) ≡ b → numbered (set_number rows gift.space (given_once_more row)) s ≡ option_map (λ _. space_row names parts (entry ∷ past) s) (numbered names.spaces s)
          by true same =
              let here : numbered rows s ≡ Some row = subst (λ n. numbered rows n ≡ Some row) (number_same gift.space s same) some in
              let is = some_row s row (numbered names.spaces s) (sym here ∙ has s) in
              ap (λ n. numbered (set_number rows n (given_once_more row)) s) (number_same gift.space s same)
              ∙ (written rows s row (given_once_more row) here
              ∙ (ap (λ r. Some (given_once_more r)) is.0
              ∙ (ap Some (row_more s (gives_is s ∙ same))
              ∙ sym is.1)))
          by false other = others rows gift.space s (given_once_more row) first other ∙ not_given s (gives_is s ∙ other)

      at : (o : Option Gift) → gift_given entry.reply ≡ o → Counted (rows_given rows o)
      at None none = λ s. not_given s (ap (λ gift. is_of gift s) none)
      at (Some gift) given = λ s. of gift (λ n. ap (λ g. is_of g n) given) (numbered rows gift.space) refl s

-- REQUESTS

own_here : (entry : Entry) (past : List Entry) (r : ℕ) (p : Entry → Bool) → (entry.request == r) ≡ true → list_any p (own (entry ∷ past) r) ≡ (p entry || list_any p (own past r))
own_here entry past r p is = ap (λ b. list_any p (cond b (entry ∷ own past r) (own past r))) is

own_there : (entry : Entry) (past : List Entry) (r : ℕ) (p : Entry → Bool) → (entry.request == r) ≡ false → list_any p (own (entry ∷ past) r) ≡ list_any p (own past r)
own_there entry past r p other = ap (λ b. list_any p (cond b (entry ∷ own past r) (own past r))) other

request_row_of : (u u' s s' p p' k k' : Bool) → u ≡ u' → s ≡ s' → p ≡ p' → k ≡ k' → ◌≡◌ {A = RequestRow} (record { url = u; default_server = s; default_proxy = p; default_socks = k }) (record { url = u'; default_server = s'; default_proxy = p'; default_socks = k' })
request_row_of u u' s s' p p' k k' same_u same_s same_p same_k = cc

module _ (roster : Roster) (names : Tables) (past : List Entry) (entry : Entry) (rows : List RequestRow) (has : (r : ℕ) → numbered rows r ≡ option_map (λ _. request_row names past r) (numbered roster.requests r)) where
  abbrev for_target : Target → Entry → Bool
  for_target target e = is_default e.reply && same_target (target_of names (space_selected e.call)) target

  row_here : (r : ℕ) → (entry.request == r) ≡ true → row_told names entry.call entry.reply (request_row names past r) ≡ request_row names (entry ∷ past) r
  row_here r is =
      request_row_of _ _ _ _ _ _ _ _
      (sym (own_here entry past r (λ e. is_url e.reply) is)) (sym (own_here entry past r (for_target Server) is))
      (sym (own_here entry past r (for_target Proxy) is)) (sym (own_here entry past r (for_target Socks) is))

  row_there : (r : ℕ) → (entry.request == r) ≡ false → request_row names (entry ∷ past) r ≡ request_row names past r
  row_there r other =
      request_row_of _ _ _ _ _ _ _ _
      (own_there entry past r (λ e. is_url e.reply) other) (own_there entry past r (for_target Server) other)
      (own_there entry past r (for_target Proxy) other) (own_there entry past r (for_target Socks) other)

  some_request : (r : ℕ) (row : RequestRow) (o : Option Request) → Some row ≡ option_map (λ (_ : Request). request_row names past r) o → (row ≡ request_row names past r) × (option_map (λ (_ : Request). request_row names (entry ∷ past) r) o ≡ Some (request_row names (entry ∷ past) r))
  some_request r row None is = absurd cc
  some_request r row (Some request) is = (cc, refl)

  no_request : (r : ℕ) (o : Option Request) → None ≡ option_map (λ (_ : Request). request_row names past r) o → None ≡ option_map (λ (_ : Request). request_row names (entry ∷ past) r) o
  no_request r None is = refl
  no_request r (Some request) is = absurd cc

  elsewhere : (r : ℕ) → (entry.request == r) ≡ false → numbered rows r ≡ option_map (λ _. request_row names (entry ∷ past) r) (numbered roster.requests r)
  elsewhere r other = has r ∙ ap (λ row. option_map (λ (_ : Request). row) (numbered roster.requests r)) (sym (row_there r other))

  pub requests_told : (r : ℕ) → numbered (requests_after names entry.request entry.call entry.reply rows) r ≡ option_map (λ _. request_row names (entry ∷ past) r) (numbered roster.requests r)
  requests_told r = at (numbered rows entry.request) refl (entry.request == r) refl
    where
      at : (o : Option RequestRow) → numbered rows entry.request ≡ o → (b : Bool) → (entry.request == r) ≡ b → numbered (requests_with names entry.request entry.call entry.reply rows o) r ≡ option_map (λ _. request_row names (entry ∷ past) r) (numbered roster.requests r)
      at None none true same =
          let here : numbered rows r ≡ None = subst (λ n. numbered rows n ≡ None) (number_same entry.request r same) none in
          here ∙ no_request r (numbered roster.requests r) (sym here ∙ has r)
      at None none false other = elsewhere r other
      at (Some row) some true same =
          let here : numbered rows r ≡ Some row = subst (λ n. numbered rows n ≡ Some row) (number_same entry.request r same) some in
          let is = some_request r row (numbered roster.requests r) (sym here ∙ has r) in
          ap (λ n. numbered (set_number rows n (row_told names entry.call entry.reply row)) r) (number_same entry.request r same)
          ∙ (written rows r row (row_told names entry.call entry.reply row) here
          ∙ (ap (λ w. Some (row_told names entry.call entry.reply w)) is.0
          ∙ (ap Some (row_here r same)
          ∙ sym is.1)))
      at (Some row) some false other =
          others rows entry.request r (row_told names entry.call entry.reply row) (numbered_in rows entry.request (ap is_some some)).0 other ∙ elsewhere r other

-- PROMPTS

pub led_grown : (past : List Entry) (entry : Entry) (led : List ℕ) → led ≡ spaces_led past → led_after entry.call entry.reply led ≡ spaces_led (entry ∷ past)
led_grown past entry led is = at (is_lead entry.reply) refl
  where
    rest : List ℕ
    rest = map (λ e. space_selected e.call) (filter (λ e. is_lead e.reply) past)

    at : (b : Bool) → is_lead entry.reply ≡ b → cond b (led ++ space_selected entry.call ∷ []) led ≡ spaces_led (entry ∷ past)
    at true leads =
        ap (λ xs. xs ++ space_selected entry.call ∷ []) is
        ∙ (sym (reverse-append (space_selected entry.call ∷ []) rest)
        ∙ sym (ap (λ b. reverse (map (λ e. space_selected e.call) (cond b (entry ∷ filter (λ e. is_lead e.reply) past) (filter (λ e. is_lead e.reply) past)))) leads))
    at false unled =
        is ∙ sym (ap (λ b. reverse (map (λ e. space_selected e.call) (cond b (entry ∷ filter (λ e. is_lead e.reply) past) (filter (λ e. is_lead e.reply) past)))) unled)

-- EPOCHS

-- the epochs rise at the nonce that is taken out
module _ (names : Tables) (past : List Entry) (entry : Entry) (most : ℕ) (epochs : List ℕ) (has : (n : ℕ) → 1 ≤ n → n ≤ most → numbered epochs n ≡ Some (epoch names past n)) (out : ℕ)
    (only : (n : ℕ) → IsTrue (takes_out names entry past n) → out ≡ n) (it : 1 ≤ out → IsTrue (takes_out names entry past out)) (within : out ≤ most) where
  pub epochs_risen : (n : ℕ) → 1 ≤ n → n ≤ most → numbered (epochs_after out epochs) n ≡ Some (epoch names (entry ∷ past) n)
  epochs_risen n first last = at (numbered epochs out) refl (out == n) refl
    where
      stays : (out == n) ≡ false → epoch names (entry ∷ past) n ≡ epoch names past n
      stays other = of (takes_out names entry past n) refl
        where
          of : (b : Bool) → takes_out names entry past n ≡ b → cond {A = ℕ} b 1 0 + epoch names past n ≡ epoch names past n
          of true taken = absurd (false≢true (sym other ∙ (ap (λ m. m == n) (only n taken) ∙ number_refl n)))
          of false none = omega arith

      at : (o : Option ℕ) → numbered epochs out ≡ o → (b : Bool) → (out == n) ≡ b → numbered (epochs_with epochs out o) n ≡ Some (epoch names (entry ∷ past) n)
      at None none true same =
          let here : numbered epochs n ≡ None = subst (λ m. numbered epochs m ≡ None) (number_same out n same) none in
          absurd (let there : None ≡ Some (epoch names past n) = sym here ∙ has n first last in cc)
      at None none false other = has n first last ∙ ap Some (sym (stays other))
      at (Some old) some true same =
          let is = number_same out n same in
          let here : numbered epochs n ≡ Some old = subst (λ m. numbered epochs m ≡ Some old) is some in
          let was : old ≡ epoch names past n = some_same old (epoch names past n) (sym here ∙ has n first last) in
          let taken : IsTrue (takes_out names entry past n) = subst (λ m. IsTrue (takes_out names entry past m)) is (it (omega (arith, first, is))) in
          ap (λ m. numbered (set_number epochs m (old + 1)) n) is
          ∙ (written epochs n old (old + 1) here
          ∙ ap Some (omega (arith, was, ap (λ b. cond {A = ℕ} b 1 0) taken)))
        where
          some_same : (a b : ℕ) → Some a ≡ Some b → a ≡ b
          some_same a b same = cc
      at (Some old) some false other =
          others epochs out n (old + 1) (numbered_in epochs out (ap is_some some)).0 other ∙ (has n first last ∙ ap Some (sym (stays other)))

pub epochs_length : (out : ℕ) (epochs : List ℕ) → length (epochs_after out epochs) ≡ length epochs
epochs_length out epochs = at (numbered epochs out)
  where
    at : (o : Option ℕ) → length (epochs_with epochs out o) ≡ length epochs
    at None = refl
    at (Some old) = length-set epochs (out - 1) (old + 1)

pub rows_length : (reply : BookReply) (rows : List SpaceRow) → length (rows_after reply rows) ≡ length rows
rows_length reply rows = at (gift_given reply)
  where
    of : (s : ℕ) (o : Option SpaceRow) → length (rows_with rows s o) ≡ length rows
    of s None = refl
    of s (Some row) = length-set rows (s - 1) (given_once_more row)

    at : (o : Option Gift) → length (rows_given rows o) ≡ length rows
    at None = refl
    at (Some gift) = of gift.space (numbered rows gift.space)
