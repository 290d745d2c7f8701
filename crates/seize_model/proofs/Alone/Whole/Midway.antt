-- In the middle of a call that reclaims values, alone: what happened since it began.
use Rattle.std.specs.Prelude.{Option, if◌then◌else◌, ◌==◌}
use Rattle.std.proofs.Common.{◌≡◌, ℕ, ◌+◌, Bool, true, false, List, [], ◌∷◌, ◌++◌, length, refl, arith, ap, sym, subst, ◌∙◌}
use Rattle.std.proofs.lemmas.List.{append-nil, append_assoc}
use Rattle.seize.specs.Given.SeizeWordsMem.{Mem, Took, value_at}
use Rattle.seize.specs.Given.SeizeWordsPlan.{Steps}
use Rattle.seize.specs.declared.states.TheConstants.{LAST_SLOT, IDLE, ACTIVE}
use Rattle.seize.specs.declared.rows.settle.Settle.{Settle}
use Rattle.seize.specs.declared.rows.settle.Settling.{Settling}
use Rattle.seize.specs.declared.rows.settle.Settling.TheVariants as at
use Rattle.seize.specs.declared.rows.settle.Settled.{Settled}
use Rattle.seize.specs.declared.rows.settle.Settled.TheVariants.{Goes, Waits, Gave, Done}
use Rattle.seize.specs.declared.rows.leave.Leave.{Leave}
use Rattle.seize.specs.declared.rows.leave.Leaving.{Leaving}
use Rattle.seize.specs.declared.rows.leave.Leaving.TheVariants as leaving
use Rattle.seize.specs.Settle.{settle_plan, plan_at}
use Rattle.seize.specs.Leave.{leave_plan}
use Rattle.seize.specs.Law.{Effect, Entered, Left, Linked, Unlinked, Deferred, Retired, Taken, Dropped, Ended, Made, LeftOver}
use Rattle.seize.specs.World.{World, Row, Rests, Settles, Leaves, Use, Vacant, Outside, Inside, Changing, Hand, NoBlock, LeftTo, Request, Retire, Flush, Leave', LeaveOwned, Refresh, with_at, one_more, one_less, handed_by, settle_effects, leave_effects, left_as, settles_on, leaves_on}
use Rattle.seize.specs.Sequence.{taken_in}
use Rattle.seize_model.specs.Alone.Alone.{Spares}
use Rattle.seize_rule.proofs.Given.SeizeMemoryWords.View.{view}
use Rattle.seize_rule.proofs.Points.Known.{FitsAt, bare}
use Rattle.seize_rule.proofs.Rows.Known.{FitsLeave, FitsRow}
use Rattle.seize_rule.proofs.World.Start.{words_good}
use Rattle.seize_rule.proofs.Rows.Leaving.{with_same}
use Rattle.seize_rule.proofs.Points.Settle.{is_over, settle_steps}
use Rattle.seize_rule.proofs.World.Rested.{Lone}
use Rattle.seize_rule.proofs.World.Kept.{row_may}
use Rattle.seize_rule.proofs.Rows.Others.{with_here}
use Rattle.seize_rule.proofs.Words.Kept.{settle_quiet}
use Rattle.seize_model.proofs.Alone.Histories.Calls.{with_anew}
use Rattle.seize_model.proofs.Alone.Spared.Values.{Keeps, plan_keeps}
use Rattle.seize_rule.proofs.Rows.Taken.{TellsTaken, settle_tells}
use Rattle.seize_model.proofs.Alone.Spared.Steps.{settle_spares, leave_spares}
use Rattle.seize_model.proofs.Alone.Spared.Links.{SameNext, settle_next, leave_next}
use Rattle.seize_rule.proofs.Points.Aside.{HandFits}
use Rattle.seize_rule.proofs.Given.SeizeMovesState.Ghost.{IsLeft}
use Rattle.seize_rule.proofs.Rows.LeavesTold.{UsedAs, LeaveIs, leave_still, leave_quiet}
use Rattle.seize_rule.proofs.Rows.Leave.{over_is}

-- one row more works on the slot, and then one less
pub less_more : (u : Use) → one_less (one_more u) ≡ u
less_more Vacant = refl
less_more (Outside n) = ap Outside (omega arith)
less_more (Inside n) = ap Inside (omega arith)
less_more Changing = refl

pub handed_append : (a b : List Effect) (hand : ℕ → Hand) → handed_by (a ++ b) hand ≡ handed_by a (handed_by b hand)
handed_append [] b hand = refl
handed_append (Taken c ∷ a) b hand = ap (λ (f : ℕ → Hand). with_at f c NoBlock) (handed_append a b hand)
handed_append (Entered s ∷ a) b hand = handed_append a b hand
handed_append (Left s ∷ a) b hand = handed_append a b hand
handed_append (Made c ∷ a) b hand = handed_append a b hand
handed_append (Linked c w ∷ a) b hand = handed_append a b hand
handed_append (Unlinked c ∷ a) b hand = handed_append a b hand
handed_append (Deferred c t ∷ a) b hand = handed_append a b hand
handed_append (Retired c ∷ a) b hand = handed_append a b hand
handed_append (Dropped c ∷ a) b hand = handed_append a b hand
handed_append (Ended w ∷ a) b hand = handed_append a b hand
handed_append (LeftOver c further ∷ a) b hand = handed_append a b hand

pub taken_append : (a b : List Effect) → taken_in (a ++ b) ≡ taken_in b ++ taken_in a
taken_append [] b = sym (append-nil (taken_in b))
taken_append (Taken c ∷ a) b = ap (λ (l : List ℕ). l ++ c ∷ []) (taken_append a b) ∙ append_assoc (taken_in b) (taken_in a) (c ∷ [])
taken_append (Entered s ∷ a) b = taken_append a b
taken_append (Left s ∷ a) b = taken_append a b
taken_append (Made c ∷ a) b = taken_append a b
taken_append (Linked c w ∷ a) b = taken_append a b
taken_append (Unlinked c ∷ a) b = taken_append a b
taken_append (Deferred c t ∷ a) b = taken_append a b
taken_append (Retired c ∷ a) b = taken_append a b
taken_append (Dropped c ∷ a) b = taken_append a b
taken_append (Ended w ∷ a) b = taken_append a b
taken_append (LeftOver c further ∷ a) b = taken_append a b

-- a row that settles for this slot, or has ended
abbrev pub SettlesFor : ℕ → (ℕ → Use) → (ℕ → Use) → Row → Type 0
SettlesFor s before uses Rests = uses ≡ before
SettlesFor s before uses (Settles c) = (c.slot ≡ s) × (uses ≡ with_at before s (one_more (before s)))
SettlesFor s before uses _ = ⊥

-- how the slot is used at last that a row leaves
abbrev pub left_use : ℕ → Bool → Use
left_use k f = if k == ACTIVE then Inside 0 else (if f then Vacant else Outside 0)

-- a row that leaves this slot, or has ended
abbrev pub LeavesFor : ℕ → ℕ → Bool → (ℕ → Use) → (ℕ → Use) → Row → Type 0
LeavesFor s k f before uses Rests = uses ≡ with_at before s (left_use k f)
LeavesFor s k f before uses (Leaves c) = (u : Use) × (uses ≡ with_at before s u) × LeaveIs s k f c u
LeavesFor s k f before uses _ = ⊥

abbrev pub Stands : Request → (ℕ → Use) → (ℕ → Use) → Row → Type 0
Stands (Retire s b) = SettlesFor s
Stands (Flush s) = SettlesFor s
Stands (Leave' s) = LeavesFor s IDLE false
Stands (LeaveOwned s) = LeavesFor s IDLE true
Stands (Refresh s) = LeavesFor s ACTIVE false
Stands _ = λ before uses row. ⊥

-- what a step of caller 0 did
pub record Did {T : Type 0} (w n : World T) : Type 0 where
  pub effects : List Effect
  pub logged : n.log ≡ effects ++ w.log
  pub hands : n.hand ≡ handed_by effects w.hand
  pub values : Keeps w.memory n.memory
  pub spares : Spares w.memory n.memory (taken_in effects)
  -- a block that is left to a caller is so still, with its link
  pub left : (b j : ℕ) → w.hand b ≡ LeftTo j → (n.hand b ≡ LeftTo j) × SameNext b w.memory n.memory

module _ {T : Type 0} (defers : T → Option ℕ) (size : ℕ) (w : World T) (lone : Lone defers (LAST_SLOT + 1) size 0 w) where
  fits_settle : (c : Settle) → w.row 0 ≡ Settles c → FitsAt (LAST_SLOT + 1) 0 (view defers w.memory) lone.good.state lone.good.extra (bare c) c.stands
  fits_settle c is = subst (λ (r : Row). FitsRow (LAST_SLOT + 1) 0 (view defers w.memory) lone.good.state lone.good.extra (length w.memory.slots) r) is (lone.good.rows 0)

  fits_leave : (c : Leave) → w.row 0 ≡ Leaves c → FitsLeave (LAST_SLOT + 1) 0 (view defers w.memory) lone.good.state lone.good.extra c.slot c.becomes c.frees c.stands
  fits_leave c is = subst (λ (r : Row). FitsRow (LAST_SLOT + 1) 0 (view defers w.memory) lone.good.state lone.good.extra (length w.memory.slots) r) is (lone.good.rows 0)

  -- a settling row keeps its slot
  slot_kept : (c : Settle) → w.row 0 ≡ Settles c → (m2 : Mem T) (end : Settle × Settled T) → Steps Took value_at w.memory (settle_plan defers c) m2 end → end.0.slot ≡ c.slot
  slot_kept c is m2 end st = one (is_over c.stands) refl
    where
      one : (t : Bool) → is_over c.stands ≡ t → end.0.slot ≡ c.slot
      one true e =
          let s : Steps Took value_at w.memory (plan_at defers c at.Over) m2 end =
          subst (λ (p : Settling). Steps Took value_at w.memory (plan_at defers c p) m2 end) (over_is c.stands e) st in
          ap (λ (q : Settle × Settled T). q.0.slot) s.1
      one false e =
          (settle_steps defers (LAST_SLOT + 1) 0 w.memory m2 lone.good.state lone.good.extra c end refl (words_good defers (LAST_SLOT + 1) w lone.good) lone.good.inv lone.good.shows c.stands refl e (fits_settle c is) st).0.slot_is

  settle_keeps : (c : Settle) → w.row 0 ≡ Settles c → (m2 : Mem T) (end : Settle × Settled T) → Steps Took value_at w.memory (settle_plan defers c) m2 end → Keeps w.memory m2
  settle_keeps c is m2 end st =
      plan_keeps w.memory (settle_plan defers c) m2 end (settle_quiet defers c c.stands) (row_may defers (LAST_SLOT + 1) size refl w lone.good 0 (Settles c) is) st

  leave_keeps : (c : Leave) → w.row 0 ≡ Leaves c → (m2 : Mem T) (end : Leave × Settled T) → Steps Took value_at w.memory (leave_plan defers c) m2 end → Keeps w.memory m2
  leave_keeps c is m2 end st =
      plan_keeps w.memory (leave_plan defers c) m2 end (leave_quiet defers w.memory m2 c end c.stands) (row_may defers (LAST_SLOT + 1) size refl w lone.good 0 (Leaves c) is) st

  settle_spared : (c : Settle) → w.row 0 ≡ Settles c → (m2 : Mem T) (end : Settle × Settled T) → Steps Took value_at w.memory (settle_plan defers c) m2 end
      → Spares w.memory m2 (taken_in (settle_effects c c.stands))
  settle_spared c is m2 end st =
      settle_spares defers (LAST_SLOT + 1) 0 w.memory m2 lone.good.state lone.good.extra lone.good.inv lone.good.shows c end (fits_settle c is)
      (row_may defers (LAST_SLOT + 1) size refl w lone.good 0 (Settles c) is) st

  leave_spared : (c : Leave) → w.row 0 ≡ Leaves c → (m2 : Mem T) (end : Leave × Settled T) → Steps Took value_at w.memory (leave_plan defers c) m2 end
      → Spares w.memory m2 (taken_in (leave_effects c c.stands))
  leave_spared c is m2 end st =
      leave_spares defers (LAST_SLOT + 1) 0 w.memory m2 lone.good.state lone.good.extra lone.good.inv lone.good.shows c end (fits_leave c is)
      (row_may defers (LAST_SLOT + 1) size refl w lone.good 0 (Leaves c) is) st

  -- a block that is left to a caller has that life
  is_left : (b j : ℕ) → w.hand b ≡ LeftTo j → lone.good.state.life b ≡ IsLeft j
  is_left b j e = subst (λ (h : Hand). HandFits h (lone.good.state.life b)) e (lone.good.hands b)

  settle_left : (c : Settle) → w.row 0 ≡ Settles c → (m2 : Mem T) (end : Settle × Settled T) → Steps Took value_at w.memory (settle_plan defers c) m2 end → (b j : ℕ) → w.hand b ≡ LeftTo j
      → (handed_by (settle_effects c c.stands) w.hand b ≡ LeftTo j) × SameNext b w.memory m2
  settle_left c is m2 end st b j e =
      let k = settle_next defers (LAST_SLOT + 1) 0 w.memory m2 lone.good.state lone.good.extra lone.good.inv lone.good.shows b j (is_left b j e) c end (fits_settle c is)
      (row_may defers (LAST_SLOT + 1) size refl w lone.good 0 (Settles c) is) st w.hand in
      (k.0 ∙ e, k.1)

  leave_left : (c : Leave) → w.row 0 ≡ Leaves c → (m2 : Mem T) (end : Leave × Settled T) → Steps Took value_at w.memory (leave_plan defers c) m2 end → (b j : ℕ) → w.hand b ≡ LeftTo j
      → (handed_by (leave_effects c c.stands) w.hand b ≡ LeftTo j) × SameNext b w.memory m2
  leave_left c is m2 end st b j e =
      let k = leave_next defers (LAST_SLOT + 1) 0 w.memory m2 lone.good.state lone.good.extra lone.good.inv lone.good.shows b j (is_left b j e) c end (fits_leave c is)
      (row_may defers (LAST_SLOT + 1) size refl w lone.good 0 (Leaves c) is) st w.hand in
      (k.0 ∙ e, k.1)

  pub settles_did : (c : Settle) → w.row 0 ≡ Settles c → (m2 : Mem T) (d : Settle) (p : Settled T) → Steps Took value_at w.memory (settle_plan defers c) m2 (d, p) → Did w (settles_on w 0 c m2 (d, p))
  settles_did c is m2 d Goes st = record {
    effects = settle_effects c c.stands;
    logged = refl;
    hands = refl;
    values = settle_keeps c is m2 (d, Goes) st;
    spares = settle_spared c is m2 (d, Goes) st;
    left = settle_left c is m2 (d, Goes) st;
  }
  settles_did c is m2 d Waits st = record {
    effects = settle_effects c c.stands;
    logged = refl;
    hands = refl;
    values = settle_keeps c is m2 (d, Waits) st;
    spares = settle_spared c is m2 (d, Waits) st;
    left = settle_left c is m2 (d, Waits) st;
  }
  settles_did c is m2 d (Gave value) st = record {
    effects = settle_effects c c.stands;
    logged = refl;
    hands = refl;
    values = settle_keeps c is m2 (d, Gave value) st;
    spares = settle_spared c is m2 (d, Gave value) st;
    left = settle_left c is m2 (d, Gave value) st;
  }
  settles_did c is m2 d Done st =
      let none : TellsTaken w.memory m2 (settle_effects c c.stands) Done = settle_tells defers w.memory m2 c (d, Done) st in
      record {
        effects = [];
        logged = refl;
        hands = refl;
        values = settle_keeps c is m2 (d, Done) st;
        spares = subst (λ (l : List ℕ). Spares w.memory m2 l) none (settle_spared c is m2 (d, Done) st);
        left = λ b j e. (e, (settle_left c is m2 (d, Done) st b j e).1);
      }

  pub leaves_did : (c : Leave) → w.row 0 ≡ Leaves c → (m2 : Mem T) (end : Leave × Settled T) → Steps Took value_at w.memory (leave_plan defers c) m2 end → Did w (leaves_on w 0 c m2 end)
  leaves_did c is m2 end st = record {
    effects = leave_effects c c.stands;
    logged = refl;
    hands = refl;
    values = leave_keeps c is m2 end st;
    spares = leave_spared c is m2 end st;
    left = leave_left c is m2 end st;
  }

  module _ (s : ℕ) (before : ℕ → Use) where
    -- the row is there again
    again : (uses : ℕ → Use) (row : Row) → SettlesFor s before uses row → SettlesFor s before uses (with_at w.row 0 row 0)
    again uses row h = subst (λ (r : Row). SettlesFor s before uses r) (sym (with_here w.row 0 row)) h

    pub settles_for : (c : Settle) → w.row 0 ≡ Settles c → SettlesFor s before w.uses (Settles c) → (m2 : Mem T) (d : Settle) (p : Settled T)
        → Steps Took value_at w.memory (settle_plan defers c) m2 (d, p) → SettlesFor s before (settles_on w 0 c m2 (d, p)).uses ((settles_on w 0 c m2 (d, p)).row 0)
    settles_for c is h m2 d Goes st = again w.uses (Settles d) (slot_kept c is m2 (d, Goes) st ∙ h.0, h.1)
    settles_for c is h m2 d Waits st = again w.uses (Settles d) (slot_kept c is m2 (d, Waits) st ∙ h.0, h.1)
    settles_for c is h m2 d (Gave value) st = again w.uses (Settles d) (slot_kept c is m2 (d, Gave value) st ∙ h.0, h.1)
    settles_for c is h m2 d Done st =
        again (with_at w.uses c.slot (one_less (w.uses c.slot))) Rests
        (ap (λ (t : ℕ). with_at w.uses t (one_less (w.uses t))) h.0 ∙ ap (λ (f : ℕ → Use). with_at f s (one_less (f s))) h.1
        ∙ ap (λ (u : Use). with_at (with_at before s (one_more (before s))) s (one_less u)) (with_here before s (one_more (before s)))
        ∙ with_anew before s (one_more (before s)) (one_less (one_more (before s))) ∙ ap (λ (u : Use). with_at before s u) (less_more (before s)) ∙ with_same before s)

    module _ (k : ℕ) (f : Bool) where
      again_leaves : (uses : ℕ → Use) (row : Row) → LeavesFor s k f before uses row → LeavesFor s k f before uses (with_at w.row 0 row 0)
      again_leaves uses row h = subst (λ (r : Row). LeavesFor s k f before uses r) (sym (with_here w.row 0 row)) h

      -- the slot is used so after the step
      now_used : (c : Leave) (u : Use) → w.uses ≡ with_at before s u → c.slot ≡ s → with_at w.uses c.slot (left_as c c.stands (w.uses c.slot)) ≡ with_at before s (left_as c c.stands u)
      now_used c u h e =
          ap (λ (t : ℕ). with_at w.uses t (left_as c c.stands (w.uses t))) e ∙ ap (λ (g : ℕ → Use). with_at g s (left_as c c.stands (g s))) h
          ∙ ap (λ (v : Use). with_at (with_at before s u) s (left_as c c.stands v)) (with_here before s u) ∙ with_anew before s u (left_as c c.stands u)

      over_use : (a b : ℕ) (x y : Bool) (u : Use) → a ≡ b → x ≡ y → u ≡ (if y then Vacant else Changing) → (if a == ACTIVE then Inside 0 else (if x then u else Outside 0)) ≡ left_use b y
      over_use a b x y u e g h = rw (e, g, h) (by (b == ACTIVE) y)
        where
          by : (p q : Bool) → (if p then Inside 0 else (if q then (if q then Vacant else Changing) else Outside 0)) ≡ (if p then Inside 0 else (if q then Vacant else Outside 0))
          by true q = refl
          by false true = refl
          by false false = refl

      pub leaves_for : (c : Leave) → LeavesFor s k f before w.uses (Leaves c) → (m2 : Mem T) (d : Leave) (p : Settled T) → Steps Took value_at w.memory (leave_plan defers c) m2 (d, p)
          → LeavesFor s k f before (leaves_on w 0 c m2 (d, p)).uses ((leaves_on w 0 c m2 (d, p)).row 0)
      leaves_for c h m2 d Goes st =
          again_leaves (with_at w.uses c.slot (left_as c c.stands (w.uses c.slot))) (Leaves d)
          (left_as c c.stands h.0, now_used c h.0 h.1 h.2.slot, leave_still defers w.memory m2 c (d, Goes) s k f h.0 h.2 st)
      leaves_for c h m2 d Waits st =
          again_leaves (with_at w.uses c.slot (left_as c c.stands (w.uses c.slot))) (Leaves d)
          (left_as c c.stands h.0, now_used c h.0 h.1 h.2.slot, leave_still defers w.memory m2 c (d, Waits) s k f h.0 h.2 st)
      leaves_for c h m2 d (Gave value) st =
          again_leaves (with_at w.uses c.slot (left_as c c.stands (w.uses c.slot))) (Leaves d)
          (left_as c c.stands h.0, now_used c h.0 h.1 h.2.slot, leave_still defers w.memory m2 c (d, Gave value) s k f h.0 h.2 st)
      leaves_for c h m2 d Done st =
          let e : c.stands ≡ leaving.Over = leave_still defers w.memory m2 c (d, Done) s k f h.0 h.2 st in
          let used : h.0 ≡ (if f then Vacant else Changing) = subst (λ (p : Leaving). UsedAs f p h.0) e h.2.used in
          again_leaves (with_at w.uses c.slot (left_as c c.stands (w.uses c.slot))) Rests
          (now_used c h.0 h.1 h.2.slot ∙ ap (λ (p : Leaving). with_at before s (left_as c p h.0)) e ∙ ap (λ (u : Use). with_at before s u) (over_use c.becomes k c.frees f h.0 h.2.becomes h.2.frees used))
