-- An index that stands for a legal history may be asked what the book may be asked, and told the entry.
use Rattle.std.proofs.Common.{◌≡◌, ℕ, zero, suc, ◌+◌, ◌*◌, ◌<◌, ◌≤◌, Bool, true, false, not, ◌&&◌, cond, List, [], ◌∷◌, length, refl, ap, sym, subst, ◌∙◌, arith, Option, Some, None}
use Rattle.std.specs.Prelude.{IfSome, IsTrue, is_some, filter, reverse, option_map, unwrap_or, slice_get, ◌==◌}
use Rattle.std.specs.Coded.{Unit-prop, Coded-set, codes}
use Rattle.std.proofs.Props.{props}
use Rattle.std.proofs.lemmas.Bool.{false≢true}
use Rattle.std.proofs.lemmas.List.{length-reverse, length-map, reverse-reverse}
use Rattle.std.proofs.lemmas.List.Sums.{count_by-le-length, length-filter}
use Rattle.spaces.specs.declared.roster.Roster.{Roster}
use Rattle.spaces.specs.ProtectionSpaces.{ProtectionSpace}
use Rattle.spaces.specs.Sites.{numbered}
use Rattle.auth_events.specs.declared.journal.Gift.{Gift}
use Rattle.auth_events.specs.declared.journal.Entry.{Entry}
use Rattle.auth_events.specs.declared.journal.Call.{Call}
use Rattle.auth_events.specs.declared.journal.Call.TheVariants.{Select, Reject, Renew, Answer, Lose, Take, Note}
use Rattle.auth_events.specs.declared.journal.BookReply.{BookReply}
use Rattle.auth_events.specs.declared.journal.BookReply.TheVariants.{Cached, Lead, Removed, Kept, Renewed, Noted}
use Rattle.auth_events.specs.Tables.{Tables}
use Rattle.auth_events.specs.Pages.{HasRoomFor, fits}
use Rattle.auth_events.specs.Past.{current, gives, is_lead, leads, live, terms}
use Rattle.auth_events.specs.Book.{Choice, IsLegalPast, is_rival, IsStep, retired, allowed, allowed_call, answer, begins, choice, epoch, fits_space, is_open, is_site_of, no_entry, select_answer, space_named, takes_out, waits}
use Rattle.auth_events.specs.Book.Choice.{ByUrl, ByCache, ByDefault, ByFollowing, ByLeading}
use Rattle.auth_events.specs.Told.{is_pending, retired_by}
use Rattle.auth_events.proofs.Numbers.{and_left, and_right, both, numbered_in, numbered_suc, some_of_test}
use Rattle.auth_events.proofs.Same.{number_refl}
use Rattle.auth_events.proofs.RoomLemmas.{length-le-room}
use Rattle.auth_cache.specs.declared.cache.Held.{Held}
use Rattle.auth_cache.specs.Cached.{holds}
use Rattle.auth_cache.proofs.HistoryLemmas.{cached_gift, that_gift}
use Rattle.history_laws.proofs.Telling.{current_space}
use Rattle.path_lookup.specs.declared.index.Note.{Note as PathNote}
use Rattle.path_lookup.specs.Notes.{has_free_row}
use Rattle.path_lookup.proofs.Lasting.{free_row}
use Rattle.path_lookup.proofs.HistoryLemmas.{noted_lives}
use Rattle.prompt_queue.specs.declared.queue.Joined.{Joined}
use Rattle.prompt_queue.specs.declared.queue.Joined.TheVariants.{Lead as Leads, Follow as Follows}
use Rattle.prompt_queue.specs.declared.queue.PromptTake.TheVariants.{Pending as IsPending}
use Rattle.prompt_queue.specs.Prompts.{Queue, ending_of, joined, prompt_of}
use Rattle.prompt_queue.specs.Histories.{prompts_of, reply_joined}
use Rattle.prompt_queue.proofs.HistoryLemmas.{may_tell}
use Rattle.prompt_queue.proofs.RoomOfPrompts.{room_for_prompt}
use Rattle.auth_book.specs.declared.index.BookIndex.{BookIndex}
use Rattle.auth_book.specs.declared.index.SpaceRow.{SpaceRow}
use Rattle.auth_book.specs.SiteNumbers.{site_no}
use Rattle.auth_book.specs.Indices.{StandsFor, space_row}
use Rattle.auth_book.specs.Replies.{entries_in, givings_in, held_of, part_in, reply_in, select_in}
use Rattle.auth_book.specs.Parts.{notes_at, part_of}
use Rattle.history_laws.specs.Partitions.{space_about}
use Rattle.auth_book.proofs.Here.{held_here, live_named, own_partition, part_here}
use Rattle.auth_book.specs.Fits.{AreOfBook, CacheFits, CanJoin, CanTell, HasRoom, IsReady, MayDecide, PathsFit, PromptsFit, made, past_after}
use Rattle.auth_book.specs.Steps.{IsTold, retired_in}
use Rattle.auth_book.proofs.PagesOf.{room_at, within_room}
use Rattle.auth_book.proofs.Leads.{led_length}
use Rattle.auth_book.proofs.Deciding.{replies_so}
use Rattle.auth_book.proofs.RetiredHere.{retired_here}
use Rattle.auth_book.proofs.Standing.{stands_after}

some_within : {A : Type 0} (xs : List A) (j : ℕ) → j < length xs → IsTrue (is_some (slice_get xs j))
some_within [] j lt = absurd (omega arith)
some_within (x ∷ xs) zero lt = refl
some_within (x ∷ xs) (suc j) lt = some_within xs j (omega arith)

some_numbered : {A : Type 0} (xs : List A) (n : ℕ) → 1 ≤ n → n ≤ length xs → IsTrue (is_some (numbered xs n))
some_numbered xs zero low high = absurd (omega arith)
some_numbered {A} xs (suc k) low high = subst (λ (o : Option A). IsTrue (is_some o)) (sym (numbered_suc xs k)) (some_within xs k (omega arith))

-- NUMBERS ARE SMALL

epoch_small : (names : Tables) (past : List Entry) (n : ℕ) → epoch names past n ≤ length past
epoch_small names [] n = omega arith
epoch_small names (entry ∷ past) n = at (takes_out names entry past n) (epoch_small names past n)
  where
    at : (b : Bool) → epoch names past n ≤ length past → cond {A = ℕ} b 1 0 + epoch names past n ≤ length (entry ∷ past)
    at true before = omega (arith, before)
    at false before = omega (arith, before)

never_select : (rival : ℕ → Bool) (past : List Entry) (s : ℕ) (how : Choice) → is_pending (select_answer rival past s how) ≡ false
never_select rival past s ByUrl = refl
never_select rival past s (ByCache gift) = refl
never_select rival past s ByDefault = refl
never_select rival past s (ByFollowing p) = refl
never_select rival past s ByLeading = refl

leads_next : (index : BookIndex) (s p o : ℕ) (url : Bool) (held : Option Held) (ambient : Bool) → Lead p o ≡ select_in index s url held ambient → joined index.prompts.prompts s ≡ Leads p o
leads_next index s p o true held ambient is = absurd cc
leads_next index s p o false (Some h) ambient is = absurd cc
leads_next index s p o false None true is = absurd cc
leads_next index s p o false None false is = at (joined index.prompts.prompts s) is
  where
    at : (j : Joined) → Lead p o ≡ reply_joined j → j ≡ Leads p o
    at (Leads q n) same = cc
    at (Follows q) same = absurd cc

module _ (index : BookIndex) (roster : Roster) (names : Tables) (book : AreOfBook roster names) (r : ℕ) (call : Call) (may : MayDecide index roster names r call) where
  abbrev past : List Entry
  past = may.past

  small : length may.past ≤ 131072
  small =
      let requests = book.requests in
      omega (arith, length-le-room (length roster.requests) (reverse may.past) (within_room roster names may.past may.legal), length-reverse may.past, requests)

  row_small : (s : ℕ) → IfSome (numbered index.spaces.items s) (λ row. row.givings ≤ 131072)
  row_small s = subst (λ o. IfSome o (λ (row : SpaceRow). row.givings ≤ 131072)) (sym (may.stands.spaces s)) (at (numbered names.spaces s))
    where
      at : (o : Option ProtectionSpace) → IfSome (option_map (λ _. space_row names index.partitions may.past s) o) (λ (row : SpaceRow). row.givings ≤ 131072)
      at None = tt
      at (Some space) = omega (arith, small, count_by-le-length (λ entry. gives entry s) may.past)

  few_givings : (s : ℕ) → givings_in index s ≤ 131072
  few_givings s = at (numbered index.spaces.items s) (row_small s)
    where
      at : (o : Option SpaceRow) → IfSome o (λ row. row.givings ≤ 131072) → unwrap_or (option_map (λ row. row.givings) o) 0 ≤ 131072
      at None few = omega arith
      at (Some row) few = few

module _ (index : BookIndex) (roster : Roster) (names : Tables) (r caller : ℕ) (past : List Entry) (legal : IsLegalPast roster names past) (stands : StandsFor index roster names past) where
  -- a call that isn't pending has room for its entry
  room_of : (call : Call) → IsTrue (allowed roster names past caller r call) → is_pending (answer roster names past r call) ≡ false → HasRoomFor (record { requests = length roster.requests; entries = reverse past }) (record { caller = caller; request = r; call = call; reply = answer roster names past r call })
  room_of call may done =
      room_at roster names past (record { caller = caller; request = r; call = call; reply = answer roster names past r call }) (within_room roster names past legal) may refl done

  pub fit_of : (call : Call) → IsTrue (allowed roster names past caller r call) → is_pending (answer roster names past r call) ≡ false → IsTrue (fits call (answer roster names past r call))
  fit_of call may done = let room = room_of call may done in room.page.fit

  prompt_room : (call : Call) → IsTrue (allowed roster names past caller r call) → is_pending (answer roster names past r call) ≡ false → length (prompts_of past) < 32 * length roster.requests
  prompt_room call may done =
      subst (λ es. length (prompts_of es) < 32 * length roster.requests) (reverse-reverse past)
      (room_for_prompt roster names (length roster.requests) (reverse past) (record { caller = caller; request = r; call = call; reply = answer roster names past r call }) (within_room roster names past legal) (room_of call may done)
      (subst (λ es. IsLegalPast roster names es) (sym (reverse-reverse past)) legal))

  allowed_of : (call : Call) → IsTrue (allowed roster names past caller r call) → IsTrue (allowed_call roster names past r call)
  allowed_of call may = and_right (cond (begins call) (no_entry past r) (is_open past caller r)) (allowed_call roster names past r call) may

  joins_room : (s t : ℕ) → IsTrue (allowed roster names past caller r (Select s t)) → HasRoom index.prompts s
  joins_room s t may = (added, room)
    where
      of_site : IsTrue (unwrap_or (option_map (is_site_of roster r) (space_named names s)) false)
      of_site =
          let there = unwrap_or (option_map (is_site_of roster r) (space_named names s)) false in
          and_left there (fits_space names s t) (and_left (there && fits_space names s t) (not (waits past r)) (allowed_of (Select s t) may))

      row_there : (o : Option ProtectionSpace) → IsTrue (is_some o) → IsTrue (is_some (option_map (λ _. space_row names index.partitions past s) o))
      row_there None some = some
      row_there (Some space) some = refl

      added : s < index.prompts.spaces
      added =
          let named = some_of_test (is_site_of roster r) (space_named names s) of_site in
          let range = numbered_in index.spaces.items s (ap is_some (stands.spaces s) ∙ row_there (numbered names.spaces s) named) in
          let within = index.rows in
          let some : 1 ≤ index.prepared = omega (arith, range.0, range.1, within) in
          omega (arith, range.1, within, index.added some)

      room : length index.prompts.prompts < 32 * index.prompts.requests
      room =
          let few = prompt_room (Select s t) may (never_select (is_rival names s) past s (choice roster names past r s)) in
          let requests = stands.prompt_room in
          omega (arith, few, ap length stands.prompts, requests)

  pub join_ok : (call : Call) → IsTrue (allowed roster names past caller r call) → CanJoin index.prompts call
  join_ok (Select s t) may = joins_room s t may
  join_ok (Take p) may =
      subst (λ ps. IsTrue (is_some (prompt_of ps p))) (sym stands.prompts) (may_tell roster names past r (Take p) legal (allowed_of (Take p) may))
  join_ok call may = tt

  held_there : (gift : Gift) → current past gift.space ≡ Some gift → held_of index gift.space ≡ Some (record { gift = gift; terms = terms past gift.space })
  held_there gift is = held_here roster names past legal index stands gift.space ∙ ap (option_map (λ (g : Gift). record { gift = g; terms = terms past gift.space })) is

  cache_fits : (call : Call) (reply : BookReply) → IsTrue (fits call reply) → reply ≡ answer roster names past r call → CacheFits call reply (entries_in index (space_about call reply))
  cache_fits (Select s t) (Cached gift) fit is =
      let holds_it = cached_gift (is_rival names s) past s gift _ (current past s) _ _ is in
      ap is_some (held_there gift (ap (current past) (current_space past s gift holds_it) ∙ holds_it))
  cache_fits call (Cached gift) fit is = absurd (false≢true fit)
  cache_fits (Renew gift t) Renewed fit is = ap is_some (held_there gift (that_gift past gift Renewed (Kept _) is (λ same. cc)))
  cache_fits (Reject s o) Removed fit is =
      let gift : Gift = record { space = s; ordinal = o } in
      ap (holds gift) (held_there gift (that_gift past gift Removed (Kept _) is (λ same. cc))) ∙ both (s == s) (o == o) (number_refl s) (number_refl o)
  cache_fits call reply fit is = tt

  row_for : (s : ℕ) → live past s ≡ true → IsTrue (has_free_row 32 (notes_at (part_in index s)) s)
  row_for s lives = at (numbered names.spaces s) refl (live_named roster names past legal s lives)
    where
      at : (o : Option ProtectionSpace) → numbered names.spaces s ≡ o → IsTrue (is_some o) → IsTrue (has_free_row 32 (notes_at (part_in index s)) s)
      at None none some = absurd (false≢true some)
      at (Some space) there some =
          subst (λ part. IsTrue (has_free_row 32 (notes_at part) s)) (sym (part_here roster names past legal index stands s space there))
          (free_row roster names (site_no names) space.site.partition past legal (notes_at (part_of index.partitions space.site.partition)) (stands.paths space.site.partition) s (own_partition names s space there) lives)

  paths_fit : (call : Call) (reply : BookReply) → IsTrue (is_some (numbered roster.requests r)) → reply ≡ answer roster names past r call → PathsFit roster r call reply (notes_at (part_in index (space_about call reply)))
  paths_fit (Note gift) Noted there is = (row_for gift.space (noted_lives past gift (Kept _) is (λ same. cc)), there)
  paths_fit call reply there is = tt

module _ (index : BookIndex) (roster : Roster) (names : Tables) (book : AreOfBook roster names) (r : ℕ) (call : Call) (may : MayDecide index roster names r call) where
  reply_is : reply_in index roster names r call ≡ answer roster names may.past r call
  reply_is = replies_so roster names book.are_names book.few may.past may.legal index may.stands may.caller r call may.may

  pub ready_ok : IsReady index call
  ready_ok = record { givings = few_givings index roster names book r call may; prompts = join_ok index roster names r may.caller may.past may.legal may.stands call may.may }

prompts_fit : (index : BookIndex) (roster : Roster) (names : Tables) (book : AreOfBook roster names) (r : ℕ) (call : Call) (may : MayDecide index roster names r call) (reply : BookReply) → reply ≡ reply_in index roster names r call → PromptsFit call reply index.prompts
prompts_fit index roster names book r (Select s t) may (Lead p o) is =
    (joins_room index roster names r may.caller may.past may.legal may.stands s t may.may, leads_next index s p o _ _ _ is)
prompts_fit index roster names book r (Answer p x t) may reply is =
    subst (λ ps. ending_of ps p ≡ Some IsPending) (sym may.stands.prompts) (may_tell roster names may.past r (Answer p x t) may.legal (allowed_of index roster names r may.caller may.past may.legal may.stands (Answer p x t) may.may))
prompts_fit index roster names book r (Lose p loss) may reply is =
    subst (λ ps. ending_of ps p ≡ Some IsPending) (sym may.stands.prompts) (may_tell roster names may.past r (Lose p loss) may.legal (allowed_of index roster names r may.caller may.past may.legal may.stands (Lose p loss) may.may))
prompts_fit index roster names book r call may reply is = tt

module _ (index : BookIndex) (roster : Roster) (names : Tables) (book : AreOfBook roster names) (r : ℕ) (call : Call) (may : MayDecide index roster names r call) (reply : BookReply) (is : reply ≡ reply_in index roster names r call) (done : is_pending reply ≡ false) where
  answer_is : reply ≡ answer roster names may.past r call
  answer_is = is ∙ reply_is index roster names book r call may

  answer_done : is_pending (answer roster names may.past r call) ≡ false
  answer_done = ap is_pending (sym answer_is) ∙ done

  led_room : IsTrue (is_lead reply) → length index.led.items < index.led.room
  led_room leads_it =
      let few = prompt_room index roster names r may.caller may.past may.legal may.stands call may.may answer_done in
      let room = may.stands.led_room in
      omega (arith, few, room, ap length may.stands.led, led_length may.past, as_many)
    where
      as_many : length (prompts_of may.past) ≡ leads may.past
      as_many = length-map (filter (λ e. is_lead e.reply) may.past) _ ∙ length-filter (λ e. is_lead e.reply) may.past

  epochs_small : (n : ℕ) → IfSome (numbered index.epochs.items n) (λ epoch. epoch ≤ 131072)
  epochs_small n = at (numbered index.epochs.items n) refl
    where
      at : (o : Option ℕ) → numbered index.epochs.items n ≡ o → IfSome o (λ epoch. epoch ≤ 131072)
      at None none = tt
      at (Some e) there =
          let range = numbered_in index.epochs.items n (ap is_some there) in
          let count = may.stands.epoch_count in
          let known : Some e ≡ Some (epoch names may.past n) = sym there ∙ may.stands.epochs n range.0 (omega (arith, range.1, count)) in
          let same : e ≡ epoch names may.past n = cc in
          omega (arith, same, epoch_small names may.past n, small index roster names book r call may)

  pub tell_ok : CanTell roster r call reply index
  tell_ok =
      let room = room_of index roster names r may.caller may.past may.legal may.stands call may.may answer_done in
      let fit : IsTrue (fits call reply) = subst (λ told. IsTrue (fits call told)) (sym answer_is) room.page.fit in
      record {
        cache = cache_fits index roster names r may.caller may.past may.legal may.stands call reply fit answer_is;
        paths = paths_fit index roster names r may.caller may.past may.legal may.stands call reply (some_numbered roster.requests r room.page.from_one room.page.in_roster) answer_is;
        prompts = prompts_fit index roster names book r call may reply is;
        spaces = row_small index roster names book r call may;
        led = led_room;
        epochs = epochs_small;
      }

-- EACH HISTORY

module _ (index : BookIndex) (roster : Roster) (names : Tables) (book : AreOfBook roster names) (r : ℕ) (call : Call) (reply : BookReply) (is : reply ≡ reply_in index roster names r call) (past : List Entry) (caller : ℕ) (legal : IsLegalPast roster names past) (stands : StandsFor index roster names past) (allowed_so : IsTrue (allowed roster names past caller r call)) where
  pub reply_so : reply ≡ answer roster names past r call
  reply_so = is ∙ replies_so roster names book.are_names book.few past legal index stands caller r call allowed_so

  module _ (done : is_pending reply ≡ false) where
    step_so : IsStep roster names past (made caller r call reply)
    step_so = (
      allowed_so,
      reply_so,
      subst (λ told. IsTrue (fits call told)) (sym reply_so) (fit_of index roster names r caller past legal stands call allowed_so (ap is_pending (sym reply_so) ∙ done)),
    )

    pub retired_so : retired_in names call reply index ≡ retired_by names past (made caller r call reply)
    retired_so =
        sym (retired_here roster names past legal index stands (made caller r call reply) step_so)
        ∙ sym (ap (λ b. cond {A = ℕ} b 0 (retired names (made caller r call reply) past)) done)

    pub stands_so : (after : BookIndex) → IsTold roster names r call reply index after → StandsFor after roster names (past_after past (made caller r call reply))
    stands_so after told =
        subst (λ b. StandsFor after roster names (cond b past (made caller r call reply ∷ past))) (sym done)
        (stands_after roster names book.are_names book.few past (made caller r call reply) (legal, step_so) index after stands told)

-- WHATEVER THE HISTORY

CacheFits-prop : (call : Call) (reply : BookReply) (entries : List Held) → IsProp (CacheFits call reply entries)
CacheFits-prop call (Cached gift) entries = Prim.hlevel (props, codes, Coded-set)
CacheFits-prop (Renew gift t) Renewed entries = Prim.hlevel (props, codes, Coded-set)
CacheFits-prop (Reject s o) Removed entries = Prim.hlevel (props, codes, Coded-set)
CacheFits-prop call reply entries = Prim.hlevel (props, codes, Coded-set)

PathsFit-prop : (roster : Roster) (r : ℕ) (call : Call) (reply : BookReply) (notes : List PathNote) → IsProp (PathsFit roster r call reply notes)
PathsFit-prop roster r (Note gift) Noted notes = Prim.hlevel (props, codes, Coded-set)
PathsFit-prop roster r call reply notes = Prim.hlevel (props, codes, Coded-set)

PromptsFit-prop : (call : Call) (reply : BookReply) (queue : Queue) → IsProp (PromptsFit call reply queue)
PromptsFit-prop (Select s t) (Lead p o) queue = Prim.hlevel (props, codes, Coded-set)
PromptsFit-prop (Answer p x t) reply queue = Prim.hlevel (props, codes, Coded-set)
PromptsFit-prop (Lose p loss) reply queue = Prim.hlevel (props, codes, Coded-set)
PromptsFit-prop call reply queue = Prim.hlevel (props, codes, Coded-set)

CanJoin-prop : (queue : Queue) (call : Call) → IsProp (CanJoin queue call)
CanJoin-prop queue (Select s t) = Prim.hlevel (props, codes, Coded-set)
CanJoin-prop queue (Take p) = Prim.hlevel (props, codes, Coded-set)
CanJoin-prop queue call = Prim.hlevel (props, codes, Coded-set)

IfSome-prop : {A : Type 0} (o : Option A) (P : A → Type 0) → ((x : A) → IsProp (P x)) → IsProp (IfSome o P)
IfSome-prop None P each = Unit-prop
IfSome-prop (Some x) P each = each x

le_prop : (n : ℕ) → IsProp (n ≤ 131072)
le_prop n = Prim.hlevel props

pub IsReady-prop : (index : BookIndex) (call : Call) → IsProp (IsReady index call)
IsReady-prop index call x y =
    let givings_prop : IsProp ((s : ℕ) → givings_in index s ≤ 131072) = Prim.hlevel props in
    λ i. record {
      givings = givings_prop x.givings y.givings i;
      prompts = CanJoin-prop index.prompts call x.prompts y.prompts i;
    }

pub CanTell-prop : (roster : Roster) (r : ℕ) (call : Call) (reply : BookReply) (index : BookIndex) → IsProp (CanTell roster r call reply index)
CanTell-prop roster r call reply index x y =
    let led_prop : IsProp (IsTrue (is_lead reply) → length index.led.items < index.led.room) = Prim.hlevel props in
    λ i. record {
      cache = CacheFits-prop call reply (entries_in index (space_about call reply)) x.cache y.cache i;
      paths = PathsFit-prop roster r call reply (notes_at (part_in index (space_about call reply))) x.paths y.paths i;
      prompts = PromptsFit-prop call reply index.prompts x.prompts y.prompts i;
      spaces = λ s. IfSome-prop (numbered index.spaces.items s) (λ (row : SpaceRow). row.givings ≤ 131072) (λ row. le_prop row.givings) (x.spaces s) (y.spaces s) i;
      led = led_prop x.led y.led i;
      epochs = λ n. IfSome-prop (numbered index.epochs.items n) (λ epoch. epoch ≤ 131072) le_prop (x.epochs n) (y.epochs n) i;
    }
