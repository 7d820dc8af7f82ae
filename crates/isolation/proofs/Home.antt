-- An entry of a legal past has to do with the spaces of its request's partition alone.
use Rattle.std.proofs.Common.{◌≡◌, ℕ, Bool, true, false, not, ◌&&◌, ◌||◌, cond, List, [], ◌∷◌, refl, ap, sym, subst, ◌∙◌, ◌⊎◌, inl, inr, Option, Some, None}
use Rattle.std.specs.Prelude.{IsTrue, option_map, option_and_then, unwrap_or, nat_le, bytes_eq, length, ◌==◌}
use Rattle.std.specs.List.{list_any}
use Rattle.std.proofs.lemmas.Bool.{false≢true}
use Rattle.std.proofs.lemmas.Option.{none-some}
use Rattle.std.proofs.lemmas.List.Elements.{filter_passes}
use Rattle.std.proofs.lemmas.Slice.Eq.{bytes_eq-Decides}
use Rattle.spaces.specs.declared.roster.Roster.{Roster}
use Rattle.spaces.specs.declared.roster.Request.{Request}
use Rattle.spaces.specs.declared.place.Origin.{Origin}
use Rattle.spaces.specs.declared.site.Site.{Site}
use Rattle.spaces.specs.declared.site.Target.{Target}
use Rattle.spaces.specs.declared.site.Target.TheVariants.{Server, Proxy, Socks}
use Rattle.spaces.specs.ProtectionSpaces.{ProtectionSpace}
use Rattle.spaces.specs.Sites.{numbered, site, same_site}
use Rattle.auth_events.specs.declared.journal.Gift.{Gift}
use Rattle.auth_events.specs.declared.journal.Call.{Call}
use Rattle.auth_events.specs.declared.journal.Call.TheVariants.{Select, Reject, Renew, Note}
use Rattle.auth_events.specs.declared.journal.BookReply.{BookReply}
use Rattle.auth_events.specs.declared.journal.BookReply.TheVariants.{Ready, Url, Cached, Renewed, Given}
use Rattle.auth_events.specs.declared.journal.Entry.{Entry}
use Rattle.auth_events.specs.Tables.{Tables}
use Rattle.auth_events.specs.Past.{gift_given, gift_used, gift_renewed, evicted_by, evicted, victim, live, live_rivals, live_spaces, age, is_of, is_removed, rejects, takes_away, gives, touches, selects}
use Rattle.auth_events.specs.Book.{IsLegalPast, IsStep, allowed_call, own, was_told, was_default_told, is_default, is_that_gift, gift_told, is_rival, is_of_partition, space_named, notes, scheme_is, is_basic, is_digest, has_terms}
use Rattle.history_laws.specs.Laws.{is_site_named, AreToldAtHome}
use Rattle.auth_events.proofs.Numbers.{and_left, and_right}
use Rattle.auth_events.proofs.Same.{number_same, site_same}
use Rattle.history_laws.proofs.Leaving.{GivesNext, GivesNone, gives_next}
use Rattle.history_laws.proofs.Homes.{selected_site, asked_site}
use Rattle.history_laws.proofs.Telling.{all_told}
use Rattle.isolation.specs.Partitions.{is_in}
use Rattle.isolation.proofs.Rivals.{IsFarFrom, IsApart, greatest_own}

pub some_same : {A : Type 0} (x y : A) → Some x ≡ Some y → x ≡ y
some_same x y is = ap (λ o. unwrap_or o x) is

pub partition_of_site : (request : Request) (target : Target) (place : Site) → site request target ≡ Some place → request.partition ≡ place.partition
partition_of_site request Server place is = ap (λ (p : Site). p.partition) (some_same (record { partition = request.partition; target = Server; origin = request.place.origin }) place is)
partition_of_site request Proxy place is = of request.proxy is
  where
    of : (proxy : Option Origin) → option_map (λ at. record { partition = request.partition; target = Proxy; origin = at }) proxy ≡ Some place → request.partition ≡ place.partition
    of None is' = absurd (none-some place is')
    of (Some at) is' = ap (λ (p : Site). p.partition) (some_same (record { partition = request.partition; target = Proxy; origin = at }) place is')
partition_of_site request Socks place is = absurd (none-some place is)

pub either : {P : Type 0} (a b : Bool) → (IsTrue a → P) → (IsTrue b → P) → IsTrue (a || b) → P
either true b left right is = left refl
either false b left right is = right is

-- a test that would put two unlike things on one side fails
pub fails_apart : (x y : Bool) → (x ≡ y → ⊥) → (b : Bool) → (IsTrue b → x ≡ y) → b ≡ false
fails_apart x y unlike false same = refl
fails_apart x y unlike true same = absurd (unlike (same refl))

pub opposite : (x y : Bool) → x ≡ false → y ≡ true → x ≡ y → ⊥
opposite x y is_false is_true same = false≢true (sym is_false ∙ (same ∙ is_true))

pub opposite' : (x y : Bool) → x ≡ true → y ≡ false → x ≡ y → ⊥
opposite' x y is_true is_false same = false≢true (sym is_false ∙ (sym same ∙ is_true))

used_told : (call : Call) (reply : BookReply) (g : Gift) → gift_used call reply ≡ Some g → (gift_told reply ≡ Some g) ⊎ (gift_renewed call ≡ Some g)
used_told call (Url gift gone) g is = inl is
used_told call (Given gift gone) g is = inl is
used_told call (Cached gift) g is = inl is
used_told call (Ready gift t e) g is = inl is
used_told call Renewed g is = inr is
used_told call reply g is = absurd (none-some g is)

given_told : (reply : BookReply) (g : Gift) → gift_given reply ≡ Some g → gift_told reply ≡ Some g
given_told (Url gift gone) g is = is
given_told (Given gift gone) g is = is
given_told reply g is = absurd (none-some g is)

module _ (roster : Roster) (names : Tables) where
  -- THE REQUEST'S SITES

  was_told_site : (past : List Entry) → AreToldAtHome roster names past → (r : ℕ) (gift : Gift) → IsTrue (was_told past r gift) → IsTrue (is_site_named roster names r gift.space)
  was_told_site [] told r gift was = absurd (false≢true was)
  was_told_site (entry ∷ past) told r gift was = at (entry.request == r) refl was (was_told_site past told.0 r gift)
    where
      here : (o : Option Gift) → gift_told entry.reply ≡ o → IsTrue (is_that_gift o gift) → IsTrue (is_site_named roster names entry.request gift.space)
      here None is that = absurd (false≢true that)
      here (Some g) is that = subst (λ s. IsTrue (is_site_named roster names entry.request s)) (number_same g.space gift.space (and_left (g.space == gift.space) (g.ordinal == gift.ordinal) that)) (told.1 g is).0

      at : (b : Bool) → (entry.request == r) ≡ b → IsTrue (list_any (λ e. is_that_gift (gift_told e.reply) gift) (cond b (entry ∷ own past r) (own past r))) → (IsTrue (was_told past r gift) → IsTrue (is_site_named roster names r gift.space)) → IsTrue (is_site_named roster names r gift.space)
      at true ours was' before =
          either (is_that_gift (gift_told entry.reply) gift) (was_told past r gift)
          (λ that. subst (λ n. IsTrue (is_site_named roster names n gift.space)) (number_same entry.request r ours) (here (gift_told entry.reply) refl that)) before was'
      at false theirs was' before = before was'

  pub selects_site : (past : List Entry) (r : ℕ) (call : Call) (s : ℕ) → IsTrue (allowed_call roster names past r call) → IsTrue (selects call s) → IsTrue (is_site_named roster names r s)
  selects_site past r (Select space t) s may is = subst (λ n. IsTrue (is_site_named roster names r n)) (number_same space s is) (selected_site roster names past r space t may)
  selects_site past r call s may is = absurd (false≢true is)

  was_default_site : (past : List Entry) → IsLegalPast roster names past → (r s : ℕ) → IsTrue (was_default_told past r s) → IsTrue (is_site_named roster names r s)
  was_default_site [] legal r s was = absurd (false≢true was)
  was_default_site (entry ∷ past) legal r s was = at (entry.request == r) refl was (was_default_site past legal.0 r s)
    where
      at : (b : Bool) → (entry.request == r) ≡ b → IsTrue (list_any (λ e. is_default e.reply && selects e.call s) (cond b (entry ∷ own past r) (own past r))) → (IsTrue (was_default_told past r s) → IsTrue (is_site_named roster names r s)) → IsTrue (is_site_named roster names r s)
      at true ours was' before =
          either (is_default entry.reply && selects entry.call s) (was_default_told past r s)
          (λ that. subst (λ n. IsTrue (is_site_named roster names n s)) (number_same entry.request r ours) (selects_site past entry.request entry.call s (and_right _ _ legal.1.0) (and_right (is_default entry.reply) (selects entry.call s) that))) before was'
      at false theirs was' before = before was'

  pub rejected_site : (past : List Entry) → IsLegalPast roster names past → (r s o : ℕ) → IsTrue (allowed_call roster names past r (Reject s o)) → IsTrue (is_site_named roster names r s)
  rejected_site past legal r s o may =
      either (was_told past r (record { space = s; ordinal = o })) (o == 0 && was_default_told past r s)
      (λ told. was_told_site past (all_told roster names past legal) r (record { space = s; ordinal = o }) told)
      (λ default. was_default_site past legal r s (and_right (o == 0) (was_default_told past r s) default)) may

  pub renewed_site : (past : List Entry) → IsLegalPast roster names past → (r : ℕ) (gift : Gift) (t : ℕ) → IsTrue (allowed_call roster names past r (Renew gift t)) → IsTrue (is_site_named roster names r gift.space)
  renewed_site past legal r gift t may =
      was_told_site past (all_told roster names past legal) r gift (and_left (was_told past r gift) (scheme_is names is_digest gift.space) (and_left (was_told past r gift && scheme_is names is_digest gift.space) (has_terms names gift.space t) may))

  pub noted_site : (past : List Entry) → IsLegalPast roster names past → (r : ℕ) (gift : Gift) → IsTrue (allowed_call roster names past r (Note gift)) → IsTrue (is_site_named roster names r gift.space)
  noted_site past legal r gift may = was_told_site past (all_told roster names past legal) r gift (and_left (was_told past r gift) (scheme_is names is_basic gift.space || scheme_is names is_digest gift.space) may)

  notes_site : (past : List Entry) → IsLegalPast roster names past → (r : ℕ) (call : Call) (s : ℕ) → IsTrue (allowed_call roster names past r call) → IsTrue (notes call s) → IsTrue (is_site_named roster names r s)
  notes_site past legal r (Note gift) s may is = subst (λ n. IsTrue (is_site_named roster names r n)) (number_same gift.space s is) (noted_site past legal r gift may)
  notes_site past legal r call s may is = absurd (false≢true is)

  rejects_site : (past : List Entry) → IsLegalPast roster names past → (r : ℕ) (call : Call) (s : ℕ) → IsTrue (allowed_call roster names past r call) → IsTrue (rejects call s) → IsTrue (is_site_named roster names r s)
  rejects_site past legal r (Reject space o) s may is = subst (λ n. IsTrue (is_site_named roster names r n)) (number_same space s is) (rejected_site past legal r space o may)
  rejects_site past legal r call s may is = absurd (false≢true is)

  renews_site : (past : List Entry) → IsLegalPast roster names past → (r : ℕ) (call : Call) (g : Gift) → IsTrue (allowed_call roster names past r call) → gift_renewed call ≡ Some g → IsTrue (is_site_named roster names r g.space)
  renews_site past legal r (Renew gift t) g may is = subst (λ (h : Gift). IsTrue (is_site_named roster names r h.space)) (some_same gift g is) (renewed_site past legal r gift t may)
  renews_site past legal r call g may is = absurd (none-some g is)

  module _ (partition : List ℕ) where
    abbrev pub keep : Entry → Bool
    keep entry = is_in roster partition entry.request

    abbrev pub mine : ℕ → Bool
    mine = is_of_partition names partition

    -- a request and its sites are of one partition
    pub site_side : (r s : ℕ) → IsTrue (is_site_named roster names r s) → is_in roster partition r ≡ mine s
    site_side r s = of (space_named names s) (numbered roster.requests r)
      where
        by_site : (request : Request) (space : ProtectionSpace) (found : Option Site) → site request space.site.target ≡ found → IsTrue (unwrap_or (option_map (λ place. same_site place space.site) found) false) → request.partition ≡ space.site.partition
        by_site request space None is same = absurd (false≢true same)
        by_site request space (Some place) is same = partition_of_site request space.site.target place is ∙ ap (λ (p : Site). p.partition) (site_same place space.site same)

        of : (named : Option ProtectionSpace) (there : Option Request) → IsTrue (unwrap_or (option_map (λ (space : ProtectionSpace). unwrap_or (option_map (λ place. same_site place space.site) (option_and_then (λ request. site request space.site.target) there)) false) named) false) → unwrap_or (option_map (λ (request : Request). bytes_eq request.partition partition) there) false ≡ unwrap_or (option_map (λ (space : ProtectionSpace). bytes_eq space.site.partition partition) named) false
        of None there same = absurd (false≢true same)
        of (Some space) None same = absurd (false≢true same)
        of (Some space) (Some request) same = ap (λ q. bytes_eq q partition) (by_site request space (site request space.site.target) refl same)

    -- rivals are of one partition
    rival_side : (u s : ℕ) → IsTrue (is_rival names u s) → mine u ≡ mine s
    rival_side u s = of (space_named names u) (space_named names s)
      where
        of : (a b : Option ProtectionSpace) → IsTrue (unwrap_or (option_map (λ (space : ProtectionSpace). unwrap_or (option_map (λ (other : ProtectionSpace). bytes_eq other.site.partition space.site.partition) b) false) a) false) → unwrap_or (option_map (λ (space : ProtectionSpace). bytes_eq space.site.partition partition) a) false ≡ unwrap_or (option_map (λ (space : ProtectionSpace). bytes_eq space.site.partition partition) b) false
        of None b rival = absurd (false≢true rival)
        of (Some space) None rival = absurd (false≢true rival)
        of (Some space) (Some other) rival = ap (λ q. bytes_eq q partition) (sym ((bytes_eq-Decides other.site.partition space.site.partition).0 rival))

    module _ (entry : Entry) (past : List Entry) (legal : IsLegalPast roster names past) (step : IsStep roster names past entry) where
      may : IsTrue (allowed_call roster names past entry.request entry.call)
      may = and_right _ _ step.0

      told_side : (g : Gift) → gift_told entry.reply ≡ Some g → keep entry ≡ mine g.space
      told_side g is = site_side entry.request g.space ((all_told roster names (entry ∷ past) (legal, step)).1 g is).0

      by_gift : (o : Option Gift) (s : ℕ) → ((g : Gift) → o ≡ Some g → keep entry ≡ mine g.space) → IsTrue (is_of o s) → keep entry ≡ mine s
      by_gift None s side is = absurd (false≢true is)
      by_gift (Some g) s side is = side g refl ∙ ap mine (number_same g.space s is)

      used_side : (g : Gift) → gift_used entry.call entry.reply ≡ Some g → keep entry ≡ mine g.space
      used_side g is =
          elim (used_told entry.call entry.reply g is) [
            | inl told ↦ told_side g told
            | inr renewed ↦ site_side entry.request g.space (renews_site past legal entry.request entry.call g may renewed)
          ]

      -- the one that is evicted is a rival
      victim_side : (u s : ℕ) → IsTrue (not (s == 0)) → evicted (is_rival names u) past u ≡ s → mine u ≡ mine s
      victim_side u s some is = at (not (live past u) && nat_le 32 (length (live_rivals (is_rival names u) past))) is
        where
          of : (v : ℕ) → IsTrue (v == 0 || is_rival names u v) → v ≡ s → mine u ≡ mine s
          of v either_way same =
              either (v == 0) (is_rival names u v)
              (λ zero. absurd (false≢true (sym (zero_fails s (subst (λ n. IsTrue (n == 0)) same zero)) ∙ some)))
              (λ rival. rival_side u v rival ∙ ap mine same) either_way
            where
              zero_fails : (n : ℕ) → IsTrue (n == 0) → not (n == 0) ≡ false
              zero_fails n zero = ap not zero

          at : (b : Bool) → cond b (victim (is_rival names u) past) 0 ≡ s → mine u ≡ mine s
          at true is' =
              of (victim (is_rival names u) past)
              (greatest_own (λ n. n) (λ e. true) (is_rival names u) (age past) (live_rivals (is_rival names u) past) (filter_passes (is_rival names u) (live_spaces past))) is'
          at false is' = absurd (false≢true (sym (ap (λ n. not (n == 0)) (sym is')) ∙ some))

      gone_side : (s : ℕ) → IsTrue (not (s == 0)) → evicted_by entry.reply ≡ s → GivesNone entry.reply ⊎ GivesNext names past entry.call entry.reply → keep entry ≡ mine s
      gone_side s some is (inl none) = absurd (false≢true (sym (ap (λ n. not (n == 0)) (sym (sym none.1 ∙ is))) ∙ some))
      gone_side s some is (inr next) =
          site_side entry.request next.space (subst (λ n. IsTrue (is_site_named roster names entry.request n)) (sym next.asked) (asked_site roster names past legal entry step next.asks))
          ∙ victim_side next.space s some (sym next.evicts ∙ is)

      taken_side : (s : ℕ) → IsTrue (takes_away entry s) → keep entry ≡ mine s
      taken_side s is =
          either (rejects entry.call s && is_removed entry.reply) (not (s == 0) && evicted_by entry.reply == s)
          (λ rejected. site_side entry.request s (rejects_site past legal entry.request entry.call s may (and_left (rejects entry.call s) (is_removed entry.reply) rejected)))
          (λ gone. gone_side s (and_left (not (s == 0)) (evicted_by entry.reply == s) gone) (number_same (evicted_by entry.reply) s (and_right (not (s == 0)) (evicted_by entry.reply == s) gone)) (gives_next roster names past entry step)) is

      far : (s : ℕ) → (keep entry ≡ mine s → ⊥) → IsFarFrom entry s
      far s unlike =
          record {
            taken = fails_apart (keep entry) (mine s) unlike (takes_away entry s) (taken_side s);
            given = fails_apart (keep entry) (mine s) unlike (gives entry s) (by_gift (gift_given entry.reply) s (λ g is. told_side g (given_told entry.reply g is)));
            touched = fails_apart (keep entry) (mine s) unlike (touches entry s) (by_gift (gift_used entry.call entry.reply) s used_side);
            selected = fails_apart (keep entry) (mine s) unlike (selects entry.call s) (λ is. site_side entry.request s (selects_site past entry.request entry.call s may is));
            noted = fails_apart (keep entry) (mine s) unlike (notes entry.call s) (λ is. site_side entry.request s (notes_site past legal entry.request entry.call s may is));
          }

      pub is_apart : IsApart keep mine entry
      is_apart = record { out = λ out s own'. far s (opposite (keep entry) (mine s) out own'); within = λ here s foreign. far s (opposite' (keep entry) (mine s) here foreign) }
