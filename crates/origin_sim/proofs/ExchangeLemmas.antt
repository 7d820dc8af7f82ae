-- Exchanges grow by the heads that a write makes whole, one after the other.
use Rattle.std.proofs.Common.{◌≡◌, ℕ, true, cond, ◌&&◌, List, [], ◌∷◌, ◌++◌, length, take, drop, Some, refl, sym, ap, subst, ◌∙◌, arith, append_assoc, append-nil}
use Rattle.std.proofs.lemmas.Grind.{common_steps, flat_map-append}
use Rattle.std.proofs.lemmas.List.{take-append-drop, length-take-le}
use Rattle.std.proofs.lemmas.List.Folds.{list_all-append}
use Rattle.link_trait.specs.declared.links.LinkName.{LinkName}
use Rattle.link_trait.specs.declared.dialer.Dial.{Dial}
use Rattle.link_trait.specs.Links.{same_link}
use Rattle.link_trait.proofs.LinkLemmas.{same_self}
use Rattle.link_trait.proofs.LogLemmas.{both}
use Rattle.spaces.specs.declared.place.Origin.{Origin}
use Rattle.wire_head.specs.Lines.{head_len}
use Rattle.wire_head.proofs.HeadLengthLemmas.{head_within, head_local}
use Rattle.origin_sim.specs.Worlds.{WorldState, IsAnswer, IsBehind}
use Rattle.origin_sim.specs.declared.judged.Judged.{Judged}
use Rattle.origin_sim.specs.Exchanges.{Exchange, AreAnswered, AreTo, heads_on, replies_on, is_whole, are_on}
use Rattle.origin_sim.specs.Peers.{IsAnswering}

-- what the exchanges are, they are with more

pub answered_more : (old : WorldState) (xs ys : List Exchange) (mid new : WorldState)
    → AreAnswered old xs mid → AreAnswered mid ys new → AreAnswered old (xs ++ ys) new
answered_more old [] ys mid new first then_ = subst (λ (w : WorldState). AreAnswered w ys new) first then_
answered_more old (x ∷ xs) ys mid new first then_ = (first.0, first.1, answered_more first.0 xs ys mid new first.2 then_)

pub to_more : (dials : List Dial) (xs ys : List Exchange) → AreTo dials xs → AreTo dials ys → AreTo dials (xs ++ ys)
to_more dials [] ys first then_ = then_
to_more dials (x ∷ xs) ys first then_ = (first.0, to_more dials xs ys first.1 then_)

pub heads_more : (name : LinkName) (xs ys : List Exchange) → heads_on name (xs ++ ys) ≡ heads_on name xs ++ heads_on name ys
heads_more name xs ys = flat_map-append (λ (it : Exchange). cond (same_link it.link name) it.head []) xs ys

pub replies_more : (name : LinkName) (xs ys : List Exchange) → replies_on name (xs ++ ys) ≡ replies_on name xs ++ replies_on name ys
replies_more name xs ys = flat_map-append (λ (it : Exchange). cond (same_link it.link name) it.reply []) xs ys

on_more : (name : LinkName) (xs ys : List Exchange) → are_on name xs ≡ true → are_on name ys ≡ true → are_on name (xs ++ ys) ≡ true
on_more name xs ys first then_ =
    list_all-append (λ (it : Exchange). same_link it.link name && is_whole it.head) xs ys
    ∙ both (are_on name xs) (are_on name ys) first then_

-- a head at the front of a text ends where it does there

pub whole_front : (text : List ℕ) (n : ℕ) → head_len text ≡ Some n → is_whole (take n text) ≡ true
whole_front text n is =
    let w = head_within text n is in
    let len : length (take n text) ≡ n = length-take-le n text w.1 in
    let split : head_len (take n text ++ drop n text) ≡ Some n = ap head_len (take-append-drop n text) ∙ is in
    let own : head_len (take n text) ≡ Some n = head_local (take n text) (drop n text) n split (omega (arith, len)) in
    rw (own, len) (grind (arith, common_steps))

-- one more head is answered

pub answering_start : (old : WorldState) (name : LinkName) (to : Origin) (text replies : List ℕ)
    → IsAnswering old name to text text replies replies old
answering_start old name to text replies = record {
  more = [];
  answered = refl;
  on = refl;
  dialed = λ dials is. tt;
  cut = refl;
  said = sym (append-nil replies);
}

one_head : (name : LinkName) (it : Exchange) → same_link it.link name ≡ true → heads_on name (it ∷ []) ≡ it.head
one_head name it same = rw same (append-nil it.head)

one_reply : (name : LinkName) (it : Exchange) → same_link it.link name ≡ true → replies_on name (it ∷ []) ≡ it.reply
one_reply name it same = rw same (append-nil it.reply)

pub answering_step : (old : WorldState) (name : LinkName) (to : Origin) (text rest before replies later reply : List ℕ) (n : ℕ) (mid new : WorldState)
    → IsAnswering old name to text rest before replies mid → head_len rest ≡ Some n → IsAnswer mid name to (take n rest) reply new → later ≡ replies ++ reply
    → IsAnswering old name to text (drop n rest) before later new
answering_step old name to text rest before replies later reply n mid new was is answer is_later =
    let it : Exchange = record { link = name; to = to; head = take n rest; reply = reply } in
    let heads : heads_on name (was.more ++ it ∷ []) ≡ heads_on name was.more ++ take n rest =
    heads_more name was.more (it ∷ []) ∙ ap (λ (x : List ℕ). heads_on name was.more ++ x) (one_head name it (same_self name)) in
    let said : replies_on name (was.more ++ it ∷ []) ≡ replies_on name was.more ++ reply =
    replies_more name was.more (it ∷ []) ∙ ap (λ (x : List ℕ). replies_on name was.more ++ x) (one_reply name it (same_self name)) in
    record {
      more = was.more ++ it ∷ [];
      answered = answered_more old was.more (it ∷ []) mid new was.answered (new, answer, refl);
      on = on_more name was.more (it ∷ []) was.on (rw (same_self name, whole_front rest n is) refl);
      dialed = λ dials to_is. to_more dials was.more (it ∷ []) (was.dialed dials to_is) (to_is, tt);
      cut = was.cut ∙ ap (λ (x : List ℕ). heads_on name was.more ++ x) (sym (take-append-drop n rest))
          ∙ sym (append_assoc (heads_on name was.more) (take n rest) (drop n rest))
          ∙ ap (λ (x : List ℕ). x ++ drop n rest) (sym heads);
      said = is_later ∙ ap (λ (x : List ℕ). x ++ reply) was.said ∙ append_assoc before (replies_on name was.more) reply
          ∙ ap (λ (x : List ℕ). before ++ x) (sym said);
    }

-- what was said is only added to

pub behind_more : (old mid new : WorldState) → IsBehind old mid → IsBehind mid new → IsBehind old new
behind_more old mid new first then_ = (
  first.0 ++ then_.0,
  then_.1 ∙ ap (λ (w : WorldState). record { number = w.number; rules = w.rules; past = w.past ++ then_.0 }) first.1
      ∙ ap (λ (past : List Judged). record { number = old.number; rules = old.rules; past = past }) (append_assoc old.past first.0 then_.0),
)

pub behind_start : (old : WorldState) → IsBehind old old
behind_start old = ([], ap (λ (past : List Judged). record { number = old.number; rules = old.rules; past = past }) (sym (append-nil old.past)))
