-- A call that reclaims values, alone, step by step up to its end.
use Rattle.std.specs.Prelude.{Option, Some, IsSome, map}
use Rattle.std.proofs.Common.{◌≡◌, ℕ, zero, suc, ◌+◌, ◌*◌, ◌<◌, ◌≤◌, Bool, true, false, List, [], ◌∷◌, ◌++◌, ◌⊎◌, inl, inr, refl, ap, sym, subst, ◌∙◌}
use Rattle.std.proofs.Math.Path.{fun_ext}
use Rattle.std.proofs.lemmas.List.{append-nil, append_assoc, append_cancel_left, map-append}
use Rattle.seize.specs.Given.SeizeWordsMem.{Mem, Took, value_at, word_at}
use Rattle.seize.specs.Given.SeizeWordsPlan.{Steps}
use Rattle.seize.specs.Given.SeizeWordsDeclared.at.At.TheVariants.{Entry}
use Rattle.seize.specs.declared.states.TheConstants.{LAST_SLOT, IDLE, ACTIVE, NEXT}
use Rattle.seize.specs.declared.rows.settle.Settle.{Settle}
use Rattle.seize.specs.declared.rows.settle.Settled.{Settled}
use Rattle.seize.specs.declared.rows.settle.Settled.TheVariants.{Goes, Waits, Gave, Done}
use Rattle.seize.specs.declared.rows.leave.Leave.{Leave}
use Rattle.seize_model.specs.declared.calls.WholeCall.{WholeCall}
use Rattle.seize_model.specs.declared.calls.WholeCall.TheVariants as call
use Rattle.seize.specs.Settle.{retiring, flushing, settle_plan}
use Rattle.seize.specs.Leave.{leaving, leave_plan}
use Rattle.seize.specs.Law.{Effect}
use Rattle.seize.specs.WaitingSets.{Change, all_changed, at_start as sets_at_start}
use Rattle.seize.specs.World.{World, Row, Rests, Registers, Enters, Settles, Leaves, Defers, Frees, Hand, Use, Changing, Handed, LeftTo, Request, Register', Enter', Unregister', Retire, Flush, Leave', LeaveOwned, Refresh, Defer', Begins, Steps', MayStep, with_row, with_use, with_hand, one_more, handed_by, settle_effects, leave_effects, settles_on, leaves_on}
use Rattle.seize.specs.Sequence.{Calls, taken_in, changes}
use Rattle.seize_model.specs.Alone.Alone.{History, IsHistory, IsMidway, IsEnded, MayGive, TakesSteps, AreValues, Spares, CallSteps, at_rest, blocks_in, called, given_back, hand_at, uses_after, row_of}
use Rattle.seize_rule.proofs.World.Rested.{Lone, steps_lone, lone_rested}
use Rattle.seize_rule.proofs.World.Kept.{row_may}
use Rattle.seize_model.proofs.Sets.Turns.All.{rows_follow}
use Rattle.seize_rule.proofs.Rows.Others.{with_here, with_other}
use Rattle.seize_model.proofs.Alone.Histories.Calls.{called_history}
use Rattle.seize_model.proofs.Alone.Whole.Enter.{first_may}
use Rattle.seize_model.proofs.Alone.Whole.Register.{steps_more, steps_end}
use Rattle.seize_model.proofs.Alone.Spared.Values.{Keeps, keeps_twice}
use Rattle.seize_model.proofs.Alone.Spared.Operations.{spares_same, spares_twice}
use Rattle.seize_model.proofs.Alone.Spared.Links.{SameNext}
use Rattle.seize_rule.proofs.Rows.Taken.{TellsTaken, settle_tells}
use Rattle.seize_rule.proofs.Words.Kept.{settle_quiet}
use Rattle.seize_model.proofs.Alone.Spared.Fewer.{take_fewer, plan_fewer}
use Rattle.seize_rule.proofs.Rows.LeavesTold.{leave_tells, leave_quiet}
use Rattle.seize_model.proofs.Alone.Whole.Midway.{Did, Stands, SettlesFor, LeavesFor, handed_append, taken_append, settles_did, leaves_did, settles_for, leaves_for}

-- the row is one that settles or leaves, or it has ended
abbrev IsOfCall : Row → Type 0
IsOfCall Rests = Unit {0}
IsOfCall (Settles c) = Unit {0}
IsOfCall (Leaves c) = Unit {0}
IsOfCall _ = ⊥

settles_call : (s : ℕ) (before uses : ℕ → Use) (row : Row) → SettlesFor s before uses row → IsOfCall row
settles_call s before uses Rests h = tt
settles_call s before uses (Registers c) h = h
settles_call s before uses (Enters c) h = h
settles_call s before uses (Settles c) h = tt
settles_call s before uses (Leaves c) h = tt
settles_call s before uses (Defers t c) h = h
settles_call s before uses (Frees c) h = h

leaves_call : (s k : ℕ) (f : Bool) (before uses : ℕ → Use) (row : Row) → LeavesFor s k f before uses row → IsOfCall row
leaves_call s k f before uses Rests h = tt
leaves_call s k f before uses (Registers c) h = h
leaves_call s k f before uses (Enters c) h = h
leaves_call s k f before uses (Settles c) h = tt
leaves_call s k f before uses (Leaves c) h = tt
leaves_call s k f before uses (Defers t c) h = h
leaves_call s k f before uses (Frees c) h = h

stands_call : (request : Request) (before uses : ℕ → Use) (row : Row) → Stands request before uses row → IsOfCall row
stands_call (Retire s b) before uses row h = settles_call s before uses row h
stands_call (Flush s) before uses row h = settles_call s before uses row h
stands_call (Leave' s) before uses row h = leaves_call s IDLE false before uses row h
stands_call (LeaveOwned s) before uses row h = leaves_call s IDLE true before uses row h
stands_call (Refresh s) before uses row h = leaves_call s ACTIVE false before uses row h
stands_call (Register' e) before uses row h = absurd h
stands_call (Enter' s) before uses row h = absurd h
stands_call (Unregister' s) before uses row h = absurd h
stands_call (Defer' s b t) before uses row h = absurd h

-- how slots are used at its end
ended_uses : (request : Request) (before uses : ℕ → Use) → Stands request before uses Rests → uses ≡ uses_after request before
ended_uses (Retire s b) before uses h = h
ended_uses (Flush s) before uses h = h
ended_uses (Leave' s) before uses h = h
ended_uses (LeaveOwned s) before uses h = h
ended_uses (Refresh s) before uses h = h
ended_uses (Register' e) before uses h = absurd h
ended_uses (Enter' s) before uses h = absurd h
ended_uses (Unregister' s) before uses h = absurd h
ended_uses (Defer' s b t) before uses h = absurd h

-- what it changes hangs on no slot's use
changes_same : (request : Request) (u v : ℕ → Use) → MayGive request → changes request u v ≡ changes request u u
changes_same (Retire s b) u v h = refl
changes_same (Flush s) u v h = refl
changes_same (Leave' s) u v h = refl
changes_same (LeaveOwned s) u v h = refl
changes_same (Refresh s) u v h = refl
changes_same (Register' e) u v h = absurd h
changes_same (Enter' s) u v h = absurd h
changes_same (Unregister' s) u v h = absurd h
changes_same (Defer' s b t) u v h = absurd h

module _ {T : Type 0} (defers : T → Option ℕ) (batch_size roots : ℕ) (m : Mem T) (h : History) (request : Request) where
  -- what holds since the call began
  pub record Since (w : World T) : Type 0 where
    pub lone : Lone defers (LAST_SLOT + 1) batch_size 0 w
    pub effects : List Effect
    pub logged : w.log ≡ effects ++ h.log
    pub hands : w.hand ≡ handed_by effects (hand_at request h.hand)
    pub values : Keeps m w.memory
    pub spares : Spares m w.memory (taken_in effects)
    pub left : (b j : ℕ) → h.hand b ≡ LeftTo j → (w.hand b ≡ LeftTo j) × SameNext b m w.memory
    pub stands : Stands request h.uses w.uses (w.row 0)

  since_after : (w n : World T) → Since w → Did w n → Lone defers (LAST_SLOT + 1) batch_size 0 n → Stands request h.uses n.uses (n.row 0) → Since n
  since_after w n s d lone stands = record {
    lone = lone;
    effects = d.effects ++ s.effects;
    logged = d.logged ∙ ap (λ (l : List Effect). d.effects ++ l) s.logged ∙ sym (append_assoc d.effects s.effects h.log);
    hands = d.hands ∙ ap (handed_by d.effects) s.hands ∙ sym (handed_append d.effects s.effects (hand_at request h.hand));
    values = keeps_twice m w.memory n.memory s.values d.values;
    spares =
        subst (λ (l : List ℕ). Spares m n.memory l) (sym (taken_append d.effects s.effects))
        (spares_twice m w.memory n.memory (taken_in s.effects) (taken_in d.effects) s.spares d.spares);
    left = λ b j e. let k = s.left b j e in let l = d.left b j k.0 in (l.0, l.1 ∙ k.1);
    stands = stands;
  }

  settles_stand : (r : Request) (w : World T) → Lone defers (LAST_SLOT + 1) batch_size 0 w → (c : Settle) → w.row 0 ≡ Settles c → Stands r h.uses w.uses (Settles c) → (m2 : Mem T) (d : Settle) (p : Settled T)
      → Steps Took value_at w.memory (settle_plan defers c) m2 (d, p) → Stands r h.uses (settles_on w 0 c m2 (d, p)).uses ((settles_on w 0 c m2 (d, p)).row 0)
  settles_stand (Retire s b) w lone c is k m2 d p st = settles_for defers batch_size w lone s h.uses c is k m2 d p st
  settles_stand (Flush s) w lone c is k m2 d p st = settles_for defers batch_size w lone s h.uses c is k m2 d p st
  settles_stand (Leave' s) w lone c is k m2 d p st = absurd k
  settles_stand (LeaveOwned s) w lone c is k m2 d p st = absurd k
  settles_stand (Refresh s) w lone c is k m2 d p st = absurd k
  settles_stand (Register' e) w lone c is k m2 d p st = absurd k
  settles_stand (Enter' s) w lone c is k m2 d p st = absurd k
  settles_stand (Unregister' s) w lone c is k m2 d p st = absurd k
  settles_stand (Defer' s b t) w lone c is k m2 d p st = absurd k

  leaves_stand : (r : Request) (w : World T) → Lone defers (LAST_SLOT + 1) batch_size 0 w → (c : Leave) → Stands r h.uses w.uses (Leaves c) → (m2 : Mem T) (d : Leave) (p : Settled T)
      → Steps Took value_at w.memory (leave_plan defers c) m2 (d, p) → Stands r h.uses (leaves_on w 0 c m2 (d, p)).uses ((leaves_on w 0 c m2 (d, p)).row 0)
  leaves_stand (Leave' s) w lone c k m2 d p st = leaves_for defers batch_size w lone s h.uses IDLE false c k m2 d p st
  leaves_stand (LeaveOwned s) w lone c k m2 d p st = leaves_for defers batch_size w lone s h.uses IDLE true c k m2 d p st
  leaves_stand (Refresh s) w lone c k m2 d p st = leaves_for defers batch_size w lone s h.uses ACTIVE false c k m2 d p st
  leaves_stand (Retire s b) w lone c k m2 d p st = absurd k
  leaves_stand (Flush s) w lone c k m2 d p st = absurd k
  leaves_stand (Register' e) w lone c k m2 d p st = absurd k
  leaves_stand (Enter' s) w lone c k m2 d p st = absurd k
  leaves_stand (Unregister' s) w lone c k m2 d p st = absurd k
  leaves_stand (Defer' s b t) w lone c k m2 d p st = absurd k

  pub since_step : (w n : World T) → Since w → Steps' defers 0 (w.row 0) w n → Since n
  since_step w n s st = by (w.row 0) refl (stands_call request h.uses w.uses (w.row 0) s.stands) s.stands st
    where
      lone2 : Lone defers (LAST_SLOT + 1) batch_size 0 n
      lone2 = steps_lone defers (LAST_SLOT + 1) batch_size refl 0 w n s.lone st

      by : (row : Row) → w.row 0 ≡ row → IsOfCall row → Stands request h.uses w.uses row → Steps' defers 0 row w n → Since n
      by Rests is o k h = absurd h
      by (Settles c) is o k b =
          since_after w n s (subst (λ (v : World T). Did w v) (sym b.3) (settles_did defers batch_size w s.lone c is b.0 b.1.0 b.1.1 b.2)) lone2
          (subst (λ (v : World T). Stands request h.uses v.uses (v.row 0)) (sym b.3) (settles_stand request w s.lone c is k b.0 b.1.0 b.1.1 b.2))
      by (Leaves c) is o k b =
          since_after w n s (subst (λ (v : World T). Did w v) (sym b.3) (leaves_did defers batch_size w s.lone c is b.0 b.1 b.2)) lone2
          (subst (λ (v : World T). Stands request h.uses v.uses (v.row 0)) (sym b.3) (leaves_stand request w s.lone c k b.0 b.1.0 b.1.1 b.2))
      by (Registers c) is o k h = absurd o
      by (Enters c) is o k h = absurd o
      by (Defers t c) is o k h = absurd o
      by (Frees c) is o k h = absurd o

  since_steps : (steps : ℕ) (w n : World T) → Since w → TakesSteps defers steps 0 w n → Since n
  since_steps zero w n s st = subst (λ (v : World T). Since v) (sym st) s
  since_steps (suc steps) w n s st = since_steps steps st.0 n (since_step w st.0 s st.1) st.2

  module _ (had : IsHistory defers batch_size roots m h) where
    -- what is left to a caller isn't what a call retires
    still_left : (r : Request) (v : World T) → Begins defers batch_size 0 r (at_rest defers m h) v → (x j : ℕ) → h.hand x ≡ LeftTo j → hand_at r h.hand x ≡ LeftTo j
    still_left (Retire s c) v k x j is = with_other h.hand c x Handed (λ same. let cut = k.1.1 in let e = ap h.hand same in absurd (cc (e, is, cut))) ∙ is
    still_left (Flush s) v k x j is = is
    still_left (Leave' s) v k x j is = is
    still_left (LeaveOwned s) v k x j is = is
    still_left (Refresh s) v k x j is = is
    still_left (Register' e) v k x j is = is
    still_left (Enter' s) v k x j is = is
    still_left (Unregister' s) v k x j is = is
    still_left (Defer' s c t) v k x j is = is

    since_first : (r : Request) → r ≡ request → (v : World T) → Begins defers batch_size 0 r (at_rest defers m h) v → v.memory ≡ m → v.log ≡ h.log → v.hand ≡ hand_at request h.hand
        → Stands request h.uses v.uses (v.row 0) → Since v
    since_first r e v b memory log hand stands = record {
      lone = first_may defers batch_size roots m h had r v b;
      effects = [];
      logged = log;
      hands = hand;
      values = subst (λ (m2 : Mem T). Keeps m m2) (sym memory) (λ c u e. e);
      spares = subst (λ (m2 : Mem T). Spares m m2 []) (sym memory) (spares_same m);
      left = λ x j is.
          (ap (λ (f : ℕ → Hand). f x) hand ∙ subst (λ (q : Request). hand_at q h.hand x ≡ LeftTo j) e (still_left r v b x j is), ap (λ (m2 : Mem T). word_at m2 (Entry x NEXT)) memory);
      stands = stands;
    }

module _ {T : Type 0} (defers : T → Option ℕ) (batch_size roots : ℕ) (m : Mem T) (h : History) (had : IsHistory defers batch_size roots m h) where
  -- a call begins
  pub since_begun : (request : Request) (v : World T) → MayGive request → Begins defers batch_size 0 request (at_rest defers m h) v → Since defers batch_size roots m h request v
  since_begun (Retire s b) v may k =
      subst (λ (u : World T). Since defers batch_size roots m h (Retire s b) u) (sym k.2)
      (since_first defers batch_size roots m h (Retire s b) had (Retire s b) refl
      (with_hand (with_use (with_row (at_rest defers m h) 0 (Settles (retiring s batch_size (b * 2048)))) s (one_more (h.uses s))) b Handed) (k.0, k.1, refl) refl refl refl (refl, refl))
  since_begun (Flush s) v may k =
      subst (λ (u : World T). Since defers batch_size roots m h (Flush s) u) (sym k.1)
      (since_first defers batch_size roots m h (Flush s) had (Flush s) refl
      (with_use (with_row (at_rest defers m h) 0 (Settles (flushing s batch_size))) s (one_more (h.uses s))) (k.0, refl) refl refl refl (refl, refl))
  since_begun (Leave' s) v may k =
      subst (λ (u : World T). Since defers batch_size roots m h (Leave' s) u) (sym k.1)
      (since_first defers batch_size roots m h (Leave' s) had (Leave' s) refl
      (with_use (with_row (at_rest defers m h) 0 (Leaves (leaving s batch_size IDLE false))) s Changing) (k.0, refl) refl refl refl (Changing, refl, record { slot = refl; becomes = refl; frees = refl; used = refl }))
  since_begun (LeaveOwned s) v may k =
      subst (λ (u : World T). Since defers batch_size roots m h (LeaveOwned s) u) (sym k.1)
      (since_first defers batch_size roots m h (LeaveOwned s) had (LeaveOwned s) refl
      (with_use (with_row (at_rest defers m h) 0 (Leaves (leaving s batch_size IDLE true))) s Changing) (k.0, refl) refl refl refl (Changing, refl, record { slot = refl; becomes = refl; frees = refl; used = refl }))
  since_begun (Refresh s) v may k =
      subst (λ (u : World T). Since defers batch_size roots m h (Refresh s) u) (sym k.1)
      (since_first defers batch_size roots m h (Refresh s) had (Refresh s) refl
      (with_use (with_row (at_rest defers m h) 0 (Leaves (leaving s batch_size ACTIVE false))) s Changing) (k.0, refl) refl refl refl (Changing, refl, record { slot = refl; becomes = refl; frees = refl; used = refl }))
  since_begun (Register' e) v may k = absurd may
  since_begun (Enter' s) v may k = absurd may
  since_begun (Unregister' s) v may k = absurd may
  since_begun (Defer' s b t) v may k = absurd may

-- A whole call that has ended: what its effects are, and what happened in the world.
pub record WholeEnd {T : Type 0} (defers : T → Option ℕ) (batch_size roots : ℕ) (m : Mem T) (h : History) (request : Request) (given : List T) (m2 : Mem T) : Type 0 where
  pub effects : List Effect
  pub history : IsHistory defers batch_size roots m2 (called request effects h)
  pub gave : taken_in effects ≡ given_back batch_size request h
  pub values : AreValues defers batch_size roots m (given_back batch_size request h) given
  pub spares : Spares m m2 (given_back batch_size request h)
  pub calls : Calls defers batch_size 0 request (at_rest defers m h) (at_rest defers m2 (called request effects h))
  pub begun : World T
  pub begins : Begins defers batch_size 0 request (at_rest defers m h) begun
  pub steps : ℕ
  pub last : World T
  pub runs : TakesSteps defers steps 0 begun last
  pub logged : last.log ≡ effects ++ h.log

module _ {T : Type 0} (defers : T → Option ℕ) (batch_size roots : ℕ) (m : Mem T) (h : History) (request : Request) (row : Row) (m2 : Mem T) (given : List T)
    (mid : IsMidway defers batch_size roots m h request row m2 given) where
  pub since : Since defers batch_size roots m h request mid.now
  since = since_steps defers batch_size roots m h request mid.steps mid.begun mid.now (since_begun defers batch_size roots m h mid.history request mid.begun mid.may mid.begins) mid.runs

  pub call_may : MayStep defers row m2
  call_may =
      subst (λ (k : Mem T). MayStep defers row k) mid.memory_now
      (row_may defers (LAST_SLOT + 1) batch_size refl mid.now since.lone.good 0 row mid.row_now)

  -- the world after a step
  module _ (n : World T) (m3 : Mem T) (step : Steps' defers 0 (mid.now.row 0) mid.now n) (memory : n.memory ≡ m3) (effects : List Effect) (logged : n.log ≡ effects ++ mid.now.log) where
    runs : TakesSteps defers (suc mid.steps) 0 mid.begun n
    runs = steps_more defers 0 mid.steps mid.begun mid.now n mid.runs step

    taken : (more : List ℕ) → taken_in effects ≡ more → taken_in n.log ≡ taken_in h.log ++ (mid.back ++ more)
    taken more e =
        ap taken_in logged ∙ taken_append effects mid.now.log ∙ ap (λ (l : List ℕ). taken_in mid.now.log ++ l) e ∙ ap (λ (l : List ℕ). l ++ more) mid.taken
        ∙ append_assoc (taken_in h.log) mid.back more

    after : Since defers batch_size roots m h request n
    after = since_step defers batch_size roots m h request mid.now n since step

    -- what it leaves as it was, but for these blocks
    spared : (back : List ℕ) → taken_in n.log ≡ taken_in h.log ++ back → Spares m m3 back
    spared back e =
        let same : taken_in after.effects ≡ back =
        append_cancel_left (taken_in h.log) (taken_in after.effects) back (sym (taken_append after.effects h.log) ∙ sym (ap taken_in after.logged) ∙ e) in
        subst (λ (k : Mem T). Spares m k back) memory (subst (λ (l : List ℕ). Spares m n.memory l) same after.spares)

    goes_silent : (row2 : Row) → n.row 0 ≡ row2 → taken_in effects ≡ [] → IsMidway defers batch_size roots m h request row2 m3 given
    goes_silent row2 is none =
        let told : taken_in n.log ≡ taken_in h.log ++ mid.back = taken [] none ∙ ap (λ (l : List ℕ). taken_in h.log ++ l) (append-nil mid.back) in
        record {
          size = mid.size;
          may = mid.may;
          history = mid.history;
          begun = mid.begun;
          begins = mid.begins;
          now = n;
          steps = suc mid.steps;
          runs = runs;
          row_now = is;
          memory_now = memory;
          back = mid.back;
          taken = told;
          values = mid.values;
          spares = spared mid.back told;
        }

    goes_giving : (row2 : Row) (b : ℕ) (value : T) → n.row 0 ≡ row2 → taken_in effects ≡ b ∷ [] → value_at mid.now.memory b ≡ Some value
        → IsMidway defers batch_size roots m h request row2 m3 (given ++ value ∷ [])
    goes_giving row2 b value is one has = record {
      size = mid.size;
      may = mid.may;
      history = mid.history;
      begun = mid.begun;
      begins = mid.begins;
      now = n;
      steps = suc mid.steps;
      runs = runs;
      row_now = is;
      memory_now = memory;
      back = mid.back ++ b ∷ [];
      taken = taken (b ∷ []) one;
      values =
          map-append (value_at m) mid.back (b ∷ []) ∙ ap (λ (l : List (Option T)). l ++ value_at m b ∷ []) mid.values
          ∙ ap (λ (o : Option T). map Some given ++ o ∷ []) (since.values b value has) ∙ sym (map-append Some given (value ∷ []));
      spares = spared (mid.back ++ b ∷ []) (taken (b ∷ []) one);
    }

    -- it has ended
    module _ (rests : n.row 0 ≡ Rests) (none : taken_in effects ≡ []) where
      abbrev h2 : History
      h2 = called request after.effects h

      uses2 : n.uses ≡ uses_after request h.uses
      uses2 = ended_uses request h.uses n.uses (subst (λ (r : Row). Stands request h.uses n.uses r) rests after.stands)

      rows2 : n.row ≡ (λ i. Rests)
      rows2 = fun_ext (λ i. (lone_rested defers (LAST_SLOT + 1) batch_size refl 0 n after.lone rests).rests i)

      at_end : at_rest defers m3 h2 ≡ n
      at_end = λ i. record { memory = sym memory i; row = sym rows2 i; uses = sym uses2 i; hand = sym after.hands i; log = sym after.logged i }

      whole : Calls defers batch_size 0 request (at_rest defers m h) (at_rest defers m3 h2)
      whole = (
        mid.begun,
        suc mid.steps,
        refl,
        mid.begins,
        steps_end defers 0 (suc mid.steps) mid.begun (at_rest defers m3 h2) (subst (λ (v : World T). TakesSteps defers (suc mid.steps) 0 mid.begun v) (sym at_end) runs) refl,
      )

      same : changes request h.uses h2.uses ≡ changes request h.uses h.uses
      same = changes_same request h.uses h2.uses mid.may

      gave : taken_in after.effects ≡ given_back batch_size request h
      gave =
          append_cancel_left (taken_in h.log) (taken_in after.effects) (given_back batch_size request h)
          (sym (taken_append after.effects h.log) ∙ rows_follow defers batch_size roots mid.history.0 (at_rest defers m h) (at_rest defers m3 h2) h.before 0 request mid.size mid.history.1 whole
          ∙ ap (λ (l : List Change). taken_in h.log ++ (all_changed batch_size l (all_changed batch_size h.before sets_at_start).sets).reclaimed) same)

      back_is : mid.back ≡ given_back batch_size request h
      back_is =
          append_cancel_left (taken_in h.log) mid.back (given_back batch_size request h)
          (ap (λ (l : List ℕ). taken_in h.log ++ l) (sym (append-nil mid.back)) ∙ sym (taken [] none) ∙ ap taken_in after.logged ∙ taken_append after.effects h.log
          ∙ ap (λ (l : List ℕ). taken_in h.log ++ l) gave)

      pub ends_whole : WholeEnd defers batch_size roots m h request given m3
      ends_whole = record {
        effects = after.effects;
        history = called_history defers batch_size roots m m3 h h2 mid.history request whole (ap (λ (l : List Change). h.before ++ l) (sym same));
        gave = gave;
        values = subst (λ (l : List ℕ). AreValues defers batch_size roots m l given) back_is mid.values;
        spares = subst (λ (k : Mem T). Spares m k (given_back batch_size request h)) memory (subst (λ (l : List ℕ). Spares m n.memory l) gave after.spares);
        calls = whole;
        begun = mid.begun;
        begins = mid.begins;
        steps = suc mid.steps;
        last = n;
        runs = runs;
        logged = after.logged;
      }

      pub ends_call : IsEnded defers batch_size roots m h request given m3
      ends_call = let k = ends_whole in (k.effects, k.history, k.gave, k.values, k.spares)

-- a step of a call

module _ {T : Type 0} (defers : T → Option ℕ) (batch_size roots : ℕ) (m : Mem T) (h : History) (request : Request) (m2 : Mem T) (given : List T) (m3 : Mem T) where
  -- what a step tells, and where the call is then
  abbrev pub TellsCall : WholeCall → Settled T → Type 0
  TellsCall c Goes = IsMidway defers batch_size roots m h request (row_of c) m3 given
  TellsCall c Waits = IsMidway defers batch_size roots m h request (row_of c) m3 given
  TellsCall c (Gave value) = IsMidway defers batch_size roots m h request (row_of c) m3 (given ++ value ∷ [])
  TellsCall c Done = IsEnded defers batch_size roots m h request given m3

  settles_told : (c d : Settle) (p : Settled T) → IsMidway defers batch_size roots m h request (Settles c) m2 given → Steps Took value_at m2 (settle_plan defers c) m3 (d, p) → TellsCall (call.Settles d) p
  settles_told c d p mid st =
      let st2 : Steps Took value_at mid.now.memory (settle_plan defers c) m3 (d, p) = subst (λ (k : Mem T). Steps Took value_at k (settle_plan defers c) m3 (d, p)) (sym mid.memory_now) st in
      let step : Steps' defers 0 (mid.now.row 0) mid.now (settles_on mid.now 0 c m3 (d, p)) =
      subst (λ (r : Row). Steps' defers 0 r mid.now (settles_on mid.now 0 c m3 (d, p))) (sym mid.row_now) (m3, (d, p), st2, refl) in
      by p (settle_tells defers mid.now.memory m3 c (d, p) st2) step
    where
      by : (p : Settled T) → TellsTaken mid.now.memory m3 (settle_effects c c.stands) p → Steps' defers 0 (mid.now.row 0) mid.now (settles_on mid.now 0 c m3 (d, p)) → TellsCall (call.Settles d) p
      by Goes t step = goes_silent defers batch_size roots m h request (Settles c) m2 given mid (settles_on mid.now 0 c m3 (d, Goes)) m3 step refl (settle_effects c c.stands) refl (Settles d) (with_here mid.now.row 0 (Settles d)) t
      by Waits t step = goes_silent defers batch_size roots m h request (Settles c) m2 given mid (settles_on mid.now 0 c m3 (d, Waits)) m3 step refl (settle_effects c c.stands) refl (Settles d) (with_here mid.now.row 0 (Settles d)) t
      by (Gave value) t step =
          goes_giving defers batch_size roots m h request (Settles c) m2 given mid (settles_on mid.now 0 c m3 (d, Gave value)) m3 step refl (settle_effects c c.stands) refl (Settles d) t.0 value (with_here mid.now.row 0 (Settles d)) t.1 t.2
      by Done t step = ends_call defers batch_size roots m h request (Settles c) m2 given mid (settles_on mid.now 0 c m3 (d, Done)) m3 step refl [] refl (with_here mid.now.row 0 Rests) refl

  leaves_told : (c d : Leave) (p : Settled T) → IsMidway defers batch_size roots m h request (Leaves c) m2 given → Steps Took value_at m2 (leave_plan defers c) m3 (d, p) → TellsCall (call.Leaves d) p
  leaves_told c d p mid st =
      let st2 : Steps Took value_at mid.now.memory (leave_plan defers c) m3 (d, p) = subst (λ (k : Mem T). Steps Took value_at k (leave_plan defers c) m3 (d, p)) (sym mid.memory_now) st in
      let step : Steps' defers 0 (mid.now.row 0) mid.now (leaves_on mid.now 0 c m3 (d, p)) =
      subst (λ (r : Row). Steps' defers 0 r mid.now (leaves_on mid.now 0 c m3 (d, p))) (sym mid.row_now) (m3, (d, p), st2, refl) in
      by p (leave_tells defers mid.now.memory m3 c (d, p) st2) step
    where
      by : (p : Settled T) → TellsTaken mid.now.memory m3 (leave_effects c c.stands) p → Steps' defers 0 (mid.now.row 0) mid.now (leaves_on mid.now 0 c m3 (d, p)) → TellsCall (call.Leaves d) p
      by Goes t step = goes_silent defers batch_size roots m h request (Leaves c) m2 given mid (leaves_on mid.now 0 c m3 (d, Goes)) m3 step refl (leave_effects c c.stands) refl (Leaves d) (with_here mid.now.row 0 (Leaves d)) t
      by Waits t step = goes_silent defers batch_size roots m h request (Leaves c) m2 given mid (leaves_on mid.now 0 c m3 (d, Waits)) m3 step refl (leave_effects c c.stands) refl (Leaves d) (with_here mid.now.row 0 (Leaves d)) t
      by (Gave value) t step =
          goes_giving defers batch_size roots m h request (Leaves c) m2 given mid (leaves_on mid.now 0 c m3 (d, Gave value)) m3 step refl (leave_effects c c.stands) refl (Leaves d) t.0 value (with_here mid.now.row 0 (Leaves d)) t.1 t.2
      by Done t step =
          ends_call defers batch_size roots m h request (Leaves c) m2 given mid (leaves_on mid.now 0 c m3 (d, Done)) m3 step refl (leave_effects c c.stands) refl (with_here mid.now.row 0 Rests) t

  pub call_told : (c d : WholeCall) (p : Settled T) → IsMidway defers batch_size roots m h request (row_of c) m2 given → CallSteps defers m2 c m3 d p → TellsCall d p
  call_told (call.Settles c) (call.Settles d) p mid st = settles_told c d p mid st
  call_told (call.Leaves c) (call.Leaves d) p mid st = leaves_told c d p mid st
  call_told (call.Settles c) (call.Leaves d) p mid st = absurd st
  call_told (call.Leaves c) (call.Settles d) p mid st = absurd st

  -- its last step
  pub call_whole : (c d : WholeCall) → IsMidway defers batch_size roots m h request (row_of c) m2 given → CallSteps defers m2 c m3 d Done → WholeEnd defers batch_size roots m h request given m3
  call_whole (call.Settles c) (call.Settles d) mid st =
      let n = settles_on mid.now 0 c m3 (d, Done) in
      let st2 : Steps Took value_at mid.now.memory (settle_plan defers c) m3 (d, Done) = subst (λ (k : Mem T). Steps Took value_at k (settle_plan defers c) m3 (d, Done)) (sym mid.memory_now) st in
      let step : Steps' defers 0 (mid.now.row 0) mid.now n = subst (λ (r : Row). Steps' defers 0 r mid.now n) (sym mid.row_now) (m3, (d, Done), st2, refl) in
      ends_whole defers batch_size roots m h request (Settles c) m2 given mid n m3 step refl [] refl (with_here mid.now.row 0 Rests) refl
  call_whole (call.Leaves c) (call.Leaves d) mid st =
      let n = leaves_on mid.now 0 c m3 (d, Done) in
      let st2 : Steps Took value_at mid.now.memory (leave_plan defers c) m3 (d, Done) = subst (λ (k : Mem T). Steps Took value_at k (leave_plan defers c) m3 (d, Done)) (sym mid.memory_now) st in
      let step : Steps' defers 0 (mid.now.row 0) mid.now n = subst (λ (r : Row). Steps' defers 0 r mid.now n) (sym mid.row_now) (m3, (d, Done), st2, refl) in
      ends_whole defers batch_size roots m h request (Leaves c) m2 given mid n m3 step refl (leave_effects c c.stands) refl (with_here mid.now.row 0 Rests)
      (leave_tells defers mid.now.memory m3 c (d, Done) st2)
  call_whole (call.Settles c) (call.Leaves d) mid st = absurd st
  call_whole (call.Leaves c) (call.Settles d) mid st = absurd st

  -- and it has it after each step
  pub stepped_left : (c d : WholeCall) (p : Settled T) → IsMidway defers batch_size roots m h request (row_of c) m2 given → CallSteps defers m2 c m3 d p → (b j : ℕ) → h.hand b ≡ LeftTo j → SameNext b m m3
  stepped_left (call.Settles c) (call.Settles d) p mid st b j is =
      let n = settles_on mid.now 0 c m3 (d, p) in
      let st2 : Steps Took value_at mid.now.memory (settle_plan defers c) m3 (d, p) = subst (λ (k : Mem T). Steps Took value_at k (settle_plan defers c) m3 (d, p)) (sym mid.memory_now) st in
      let step : Steps' defers 0 (mid.now.row 0) mid.now n = subst (λ (r : Row). Steps' defers 0 r mid.now n) (sym mid.row_now) (m3, (d, p), st2, refl) in
      by p ((since_step defers batch_size roots m h request mid.now n (since defers batch_size roots m h request (Settles c) m2 given mid) step).left b j is).1
    where
      by : (p : Settled T) → SameNext b m (settles_on mid.now 0 c m3 (d, p)).memory → SameNext b m m3
      by Goes k = k
      by Waits k = k
      by (Gave value) k = k
      by Done k = k
  stepped_left (call.Leaves c) (call.Leaves d) p mid st b j is =
      let n = leaves_on mid.now 0 c m3 (d, p) in
      let st2 : Steps Took value_at mid.now.memory (leave_plan defers c) m3 (d, p) = subst (λ (k : Mem T). Steps Took value_at k (leave_plan defers c) m3 (d, p)) (sym mid.memory_now) st in
      let step : Steps' defers 0 (mid.now.row 0) mid.now n = subst (λ (r : Row). Steps' defers 0 r mid.now n) (sym mid.row_now) (m3, (d, p), st2, refl) in
      ((since_step defers batch_size roots m h request mid.now n (since defers batch_size roots m h request (Leaves c) m2 given mid) step).left b j is).1
  stepped_left (call.Settles c) (call.Leaves d) p mid st b j is = absurd st
  stepped_left (call.Leaves c) (call.Settles d) p mid st b j is = absurd st

  -- the arm that was taken
  pub call_told_as : (c d : WholeCall) (p q : Settled T) → p ≡ q → IsMidway defers batch_size roots m h request (row_of c) m2 given → CallSteps defers m2 c m3 d p → TellsCall d q
  call_told_as c d p q e mid st = subst (λ (r : Settled T). TellsCall d r) e (call_told c d p mid st)

  -- it goes on
  pub call_still : (c d : WholeCall) (p : Settled T) → (p ≡ Goes) ⊎ (p ≡ Waits) → IsMidway defers batch_size roots m h request (row_of c) m2 given → CallSteps defers m2 c m3 d p
      → IsMidway defers batch_size roots m h request (row_of d) m3 given
  call_still c d p e mid st = elim e as (λ _. IsMidway defers batch_size roots m h request (row_of d) m3 given) [
    | inl goes ↦ call_told_as c d p Goes goes mid st
    | inr waits ↦ call_told_as c d p Waits waits mid st
  ]

-- the call takes a block with each value
module _ {T : Type 0} (defers : T → Option ℕ) (m m2 : Mem T) where
  gives_fewer : (effects : List Effect) (value : T) → TellsTaken m m2 effects (Gave value) → blocks_in m2 < blocks_in m
  gives_fewer effects value t = subst (λ (k : Mem T). blocks_in k < blocks_in m) (sym t.3) (take_fewer m t.0 (subst (λ (o : Option T). IsSome o) (sym t.2) refl))

  told_fewer : (c d : WholeCall) (value : T) → CallSteps defers m c m2 d (Gave value) → blocks_in m2 < blocks_in m
  told_fewer (call.Settles c) (call.Settles d) value st = gives_fewer (settle_effects c c.stands) value (settle_tells defers m m2 c (d, Gave value) st)
  told_fewer (call.Leaves c) (call.Leaves d) value st = gives_fewer (leave_effects c c.stands) value (leave_tells defers m m2 c (d, Gave value) st)
  told_fewer (call.Settles c) (call.Leaves d) value st = absurd st
  told_fewer (call.Leaves c) (call.Settles d) value st = absurd st

  pub call_fewer : (c d : WholeCall) (p : Settled T) (value : T) → p ≡ Gave value → CallSteps defers m c m2 d p → blocks_in m2 < blocks_in m
  call_fewer c d p value e st = told_fewer c d value (subst (λ (r : Settled T). CallSteps defers m c m2 d r) e st)

  -- and makes none
  pub call_no_more : (c d : WholeCall) (p : Settled T) → MayStep defers (row_of c) m → CallSteps defers m c m2 d p → blocks_in m2 ≤ blocks_in m
  call_no_more (call.Settles c) (call.Settles d) p may st = plan_fewer m (settle_plan defers c) m2 (d, p) (settle_quiet defers c c.stands) may st
  call_no_more (call.Leaves c) (call.Leaves d) p may st = plan_fewer m (leave_plan defers c) m2 (d, p) (leave_quiet defers m m2 c (d, p) c.stands) may st
  call_no_more (call.Settles c) (call.Leaves d) p may st = absurd st
  call_no_more (call.Leaves c) (call.Settles d) p may st = absurd st
