-- The draws of a request that one caller serves, in the history of all requests before it.
use Rattle.std.proofs.Common.{◌≡◌, ◌⊎◌, inl, inr, ℕ, ◌+◌, ◌≤◌, ◌==◌, Bool, true, false, cond, IsTrue, List, [], ◌∷◌, ◌++◌, length, Some, None, is_some, refl, sym, ap, ◌∙◌, subst, append_assoc, arith, if◌then◌else◌}
use Rattle.std.specs.List.{cons_option}
use Rattle.std.proofs.lemmas.Bool.{eq-eqb, false≢true}
use Rattle.spaces.specs.declared.roster.Request.{Request}
use Rattle.spaces.specs.declared.roster.Roster.{Roster}
use Rattle.spaces.specs.Sites.{numbered}
use Rattle.auth_events.specs.declared.journal.BookReply.{BookReply}
use Rattle.auth_events.specs.declared.journal.BookReply.TheVariants.{Drawn, Ended as RequestEnded, Lost}
use Rattle.auth_events.specs.declared.journal.Call.{Call}
use Rattle.auth_events.specs.declared.journal.Call.TheVariants.{Draw, End, Lose}
use Rattle.auth_events.specs.declared.journal.Loss.TheVariants.{Memory}
use Rattle.auth_events.specs.declared.journal.Drawn.{Drawn as Word}
use Rattle.auth_events.specs.declared.journal.Entry.{Entry}
use Rattle.auth_events.specs.Book.{IsLegalPast, allowed, allowed_call, epoch, own, without_draws}
use Rattle.auth_events.specs.Fresh.{draw_in, draws_of as drawn_of, knows}
use Rattle.auth_events.specs.Tables.{AreNames, Tables}
use Rattle.auth_events.proofs.Numbers.{and_right, both, numbered_in}
use Rattle.auth_runs.specs.declared.event.Event.{Event}
use Rattle.auth_runs.specs.declared.event.Event.TheVariants.{Called, Drew}
use Rattle.plain_book.specs.Words.{draws_of}
use Rattle.trace_rule.specs.Settings.{Setting, setting_of}
use Rattle.trace_rule.specs.Traces.{IsCut, IsPast, IsRun, prompt_open, with_loss}
use Rattle.trace_laws.specs.Answering.{made}
use Rattle.run_rule.specs.Drawing.{are_next_draws, is_next_draw}
use Rattle.run_laws.proofs.Histories.{told}
use Rattle.serving_laws.specs.Alone.{entries_of, has_open_prompt}
use Rattle.serving_laws.specs.Draws.{AreNextDraws, times_drawn}
use Rattle.lone_laws.proofs.Begun.{undrawn}
use Rattle.lone_laws.proofs.Freshness.{AreKnownDraws, IsKnownDraw}
use Rattle.lone_laws.proofs.Moments.{drew_then}

module _ (roster : Roster) (seed : List ℕ) (names : Tables) (before : List Entry) (r : ℕ) (request : Request)
    (are_names : AreNames names) (in_roster : numbered roster.requests r ≡ Some request) (unserved : own before r ≡ []) (none_open : has_open_prompt before ≡ false) where
  abbrev here : List Entry → Setting
  here entries = setting_of roster seed names entries r request

  abbrev back : List Event → List Entry
  back past = entries_of r past ++ before

  -- WHO DRAWS

  -- each draw of the past is of a nonce that the request knew at that moment, and that is named
  abbrev pub AreKnownThen : List Event → Type 0
  AreKnownThen [] = Unit {0}
  AreKnownThen (Drew t n c i ∷ past) = AreKnownThen past × IsTrue (knows names (back past) r n) × IsTrue (is_some (numbered names.nonces n))
  AreKnownThen (_ ∷ past) = AreKnownThen past

  -- by what was given later
  known_past : (past : List Event) (later : List Entry) → IsLegalPast roster names (later ++ back past) → IsPast (here (later ++ back past)) past → AreKnownThen past
  known_past [] later legal run = tt
  known_past (Drew t n c i ∷ past) later legal run =
      let known = drew_then roster seed names before r request are_names in_roster unserved none_open past later legal t n c i run in
      (known_past past later legal run.0, known.0, known.1)
  known_past (Called call reply ∷ past) later legal run =
      let entry : Entry = made 1 r call reply in
      let order : (later ++ entry ∷ []) ++ back past ≡ later ++ entry ∷ back past = append_assoc later (entry ∷ []) (back past) in
      known_past past (later ++ entry ∷ []) (subst (IsLegalPast roster names) (sym order) legal) (subst (λ l. IsPast (here l) past) (sym order) run.0)
  known_past (_ ∷ past) later legal run = known_past past later legal run.0

  known_loss : (p : ℕ) (base : List Event) → AreKnownThen base → AreKnownThen (with_loss p base)
  known_loss p base known = at (p == 0)
    where
      at : (b : Bool) → AreKnownThen (if b then base else Called (Lose p Memory) (Lost Memory) ∷ base)
      at true = known
      at false = known

  pub known_trace : (whole : List Event) (later : List Entry) → IsLegalPast roster names (later ++ back whole) → IsRun (here (later ++ back whole)) whole ⊎ IsCut (here (later ++ back whole)) whole → AreKnownThen whole
  known_trace whole later legal (inl run) = known_past whole later legal run.0
  known_trace whole later legal (inr (base, cut)) =
      let there = loss_entries (prompt_open base base) base in
      let split : later ++ back whole ≡ (later ++ made 1 r End RequestEnded ∷ there.0) ++ back base =
      ap (λ l. later ++ back l) cut.cut
      ∙ (ap (λ l. later ++ made 1 r End RequestEnded ∷ l) there.1 ∙ sym (append_assoc later (made 1 r End RequestEnded ∷ there.0) (back base))) in
      subst AreKnownThen (sym cut.cut) (known_loss (prompt_open base base) base
      (known_past base (later ++ made 1 r End RequestEnded ∷ there.0) (subst (IsLegalPast roster names) split legal) (subst (λ l. IsPast (here l) base) split cut.is_past)))
    where
      loss_entries : (p : ℕ) (base : List Event) → (more : List Entry) × (back (with_loss p base) ≡ more ++ back base)
      loss_entries p base = at (p == 0)
        where
          at : (b : Bool) → (more : List Entry) × (back (if b then base else Called (Lose p Memory) (Lost Memory) ∷ base) ≡ more ++ back base)
          at true = ([], refl)
          at false = (made 1 r (Lose p Memory) (Lost Memory) ∷ [], refl)

  -- THE NEXT DRAWS

  module _ (first : List Word) (hist : List Entry) (same_before : without_draws hist ≡ before) (few : length names.nonces ≤ length first)
      (counts : (n : ℕ) → 1 ≤ n → n ≤ length first → length (drawn_of hist n) ≡ draws_of first n) where
    abbrev whole : List Event → List Entry
    whole past = told r past ++ hist

    plain : (past : List Event) → IsLegalPast roster names (back past) → without_draws (whole past) ≡ back past
    plain past legal = undrawn roster names r past hist before legal same_before

    -- a call is no draw
    call_next : (past : List Event) (call : Call) (reply : BookReply) → IsTrue (allowed_call roster names (back past) r call) → IsTrue (is_next_draw names (whole past) call reply) × IsKnownDraw names (without_draws (whole past)) r call
    call_next past (Draw n) reply may = absurd (false≢true may)
    call_next past _ reply may = (refl, tt)

    -- the counts of the history are those of the words before it and of its own draws
    pub drawn_counts : (past : List Event) → IsLegalPast roster names (back past) → (n : ℕ) → 1 ≤ n → n ≤ length first → length (drawn_of (whole past) n) ≡ draws_of first n + times_drawn past n
    drawn_counts [] legal n low high = (let e = counts n low high in omega (arith, e))
    drawn_counts (Called call reply ∷ past) legal n low high = at call legal.1.0 (drawn_counts past legal.0 n low high)
      where
        at : (c : Call) → IsTrue (allowed roster names (back past) 1 r c) → length (drawn_of (whole past) n) ≡ draws_of first n + times_drawn past n
            → length (cons_option (draw_in c reply n) (drawn_of (whole past) n)) ≡ draws_of first n + times_drawn past n
        at (Draw m) may e = absurd (false≢true (and_right _ (allowed_call roster names (back past) r (Draw m)) may))
        at _ may e = e
    drawn_counts (Drew t m c i ∷ past) legal n low high = at (m == n) (drawn_counts past legal n low high)
      where
        at : (b : Bool) → length (drawn_of (whole past) n) ≡ draws_of first n + times_drawn past n
            → length (cons_option (cond b (Some (record { count = c; epoch = i })) None) (drawn_of (whole past) n)) ≡ draws_of first n + (cond b 1 0 + times_drawn past n)
        at true e = omega (arith, e)
        at false e = omega (arith, e)
    drawn_counts (_ ∷ past) legal n low high = drawn_counts past legal n low high

    pub drawn_next : (past : List Event) → IsLegalPast roster names (back past) → AreKnownThen past → AreNextDraws names before first r past
        → IsTrue (are_next_draws names hist) → AreKnownDraws names hist → IsTrue (are_next_draws names (whole past)) × AreKnownDraws names (whole past)
    drawn_next [] legal known next before_next before_known = (before_next, before_known)
    drawn_next (Called call reply ∷ past) legal known next before_next before_known =
        let rest = drawn_next past legal.0 known next before_next before_known in
        let here_next = call_next past call reply (and_right _ (allowed_call roster names (back past) r call) legal.1.0) in
        (both (are_next_draws names (whole past)) (is_next_draw names (whole past) call reply) rest.0 here_next.0, (rest.1, here_next.1))
    drawn_next (Drew t n c i ∷ past) legal known next before_next before_known =
        let rest = drawn_next past legal known.0 next.0 before_next before_known in
        let range = numbered_in names.nonces n known.2 in
        let count : c ≡ length (drawn_of (whole past) n) + 1 = omega (arith, next.1, drawn_counts past legal n range.0 (let high = range.1 in omega (arith, high, few))) in
        let at_epoch : i ≡ epoch names (without_draws (whole past)) n = next.2 ∙ ap (λ l. epoch names l n) (sym (plain past legal)) in (
          both (are_next_draws names (whole past)) (is_next_draw names (whole past) (Draw n) (Drawn c i)) rest.0
              (both (c == length (drawn_of (whole past) n) + 1) (i == epoch names (without_draws (whole past)) n) (eq-eqb c _ count) (eq-eqb i _ at_epoch)),
          (rest.1, (subst (λ l. IsTrue (knows names l r n)) (sym (plain past legal)) known.1, known.2)),
        )
    drawn_next (_ ∷ past) legal known next before_next before_known = drawn_next past legal known next before_next before_known
