-- Between the steps of calls: where a call begins, is told a reply, or has come to an outcome, each has made for a pair what the moment says.
use Rattle.std.specs.Prelude.{◌≡◌, ◌≢◌, ℕ, Bool, true, false, List, [], map, Option, Some, None}
use Rattle.std.proofs.Common.{refl, ap, sym, subst, ◌∙◌, inl, inr}
use Rattle.std.proofs.lemmas.Bool.{cases_eq}
use Rattle.run_debts.specs.Given.RunsSame.{is_same}
use Rattle.run_debts.specs.Given.RawMachine.{machine_replied, machine_asked}
use Rattle.run_debts.specs.Given.RawDeclared.machines.asking.MachineReply.{MachineReply}
use Rattle.run_debts.specs.Given.RawDeclared.machines.machine.Machine.{Machine}
use Rattle.run_debts.specs.Given.RawDeclared.machines.machine.Machine.TheVariants as kinds
use Rattle.run_debts.specs.Given.RunsDeclared.call.Call.{Call}
use Rattle.run_debts.specs.Given.SchedulesBeginning.{with_call}
use Rattle.run_debts.specs.Given.SchedulesMoment.{UnderWay as CallThere, Moment}
use Rattle.run_debts.specs.Given.SchedulesViews.{call_of}
use Rattle.owner_calls.specs.Given.CallersTogether.{UnderWay}
use Rattle.run_debts.specs.Given.EffectsKnown.{Known}
use Rattle.run_debts.specs.Given.FinishesMachines.{machine_of}
use Rattle.run_debts.specs.Given.FinishesMaps.{with_call as with_in}
use Rattle.run_debts.specs.Given.FollowsCalling.{NoneNamed}
use Rattle.run_debts.proofs.Given.FollowsCalling.{is_same_refl}
use Rattle.run_debts.proofs.Given.HandsAsking.{which}
use Rattle.owner_calls.proofs.Holds.Calls.Runs.{told_so, calls_begin}
use Rattle.run_debts.specs.Given.OthersWalks.{given_up}
use Rattle.run_blocks.specs.Owes.Beside.{WalksPreserveMade, WalksStopMade}
use Rattle.run_blocks.specs.Owes.Keeping.{MadeBegins, CallsBeginMade, CallsBeginOwning, CallsTakeMade, CallsComeToMade}
use Rattle.run_blocks.specs.Owes.Made.{own_word, OwnsSo, IsItsBlock, HasBlock, NamesBlock, RefinesMade}
use Rattle.run_blocks.proofs.Owes.Kept.{calls_beside, calls_its, calls_without, HadAsMuch, fresh_has, others_there, told_had, left_had, come_had}
use Rattle.run_debts.specs.Given.ScenesReplying.{unless_stopped}
use Rattle.run_debts.specs.Given.ScenesScene.{Scene}
use Rattle.run_debts.proofs.Given.General.{same_some as one_of}

-- As a run begins there is no call, and no block.
pub made_begins : (K V : Type 0) → MadeBegins K V
made_begins K V roots name = record {
  has = λ map i u is c c_is. absurd (cc is);
  named = λ map i u is. absurd (cc is);
  whose = λ i b is. absurd (cc is);
}

-- A call on one key begins with no block of its own.
pub calls_begin_owning : (K V : Type 0) → CallsBeginOwning K V
calls_begin_owning K V same hash setting slot i lawful keys given call begun =
    (calls_begin K V K same hash same setting slot i lawful keys given call begun (record { roots = []; used = []; slots = []; blocks = []; choices = [] })).owns

module _ {K V : Type 0} where
  -- A reply leaves the machine its block.
  told_machine : (y : Machine K V K) (reply : MachineReply V) → OwnsSo y → OwnsSo (machine_replied y reply).0 × (own_word (machine_replied y reply).0 ≡ own_word y)
  told_machine (kinds.Key p) reply o = told_so p o p.stands refl o.point reply
  told_machine (kinds.Reserve r) reply o = (tt, refl)
  told_machine (kinds.Sweep c) reply o = (tt, refl)
  told_machine (kinds.Count sum) reply o = (tt, refl)

module _ {K V : Type 0} (name : ℕ → List ℕ) (m : Moment K V) (known : Known) (s : Scene K V) (made : RefinesMade name m known s) where
  abbrev Named : ℕ → UnderWay K V K → Type 0
  Named j x = OwnsSo (machine_of x) × NamesBlock known j (own_word (machine_of x))

  -- of one that has begun

  module _ (of i : ℕ) (u : UnderWay K V K) (its : Call K V) (guard : List ℕ) (apart : NoneNamed name (name i) s) (owns : OwnsSo (machine_of u)) where
    abbrev begun : ℕ → ℕ → Option (UnderWay K V K)
    begun = with_in s.calls of i (Some u)

    -- nobody of its number had a call, and so no block
    had_none : (j b : ℕ) → j ≡ i → IsItsBlock known j b → ⊥
    had_none j b e its_block =
        let before = made.whose j b its_block in
        let no : is_same (name i) (name j) ≡ false = apart before.0 j before.1 before.2 in
        let yes : is_same (name i) (name j) ≡ true = ap (λ (k : ℕ). is_same (name i) (name k)) e ∙ is_same_refl (name i) in
        absurd (cc (no, yes))

    begins_has : (n j : ℕ) (x : UnderWay K V K) → begun n j ≡ Some x → (c : CallThere K V) → call_of (name j) (with_call (name i) guard its (Some of) m) ≡ Some c → HasBlock known j c.has_block
    begins_has n j x is c c_is = elim (which s.calls of i (Some u) n j x is) as (λ _. HasBlock known j c.has_block) [
      | inl it ↦ subst (HasBlock known j) (sym (fresh_has name m of i its guard j it.1 c c_is).0) (λ b its_block. had_none j b it.1 its_block)
      | inr was ↦ made.has n j x was.1 c (others_there name m of i its guard j (apart n j x was.1) c c_is)
    ]

    begins_named : (n j : ℕ) (x : UnderWay K V K) → begun n j ≡ Some x → Named j x
    begins_named n j x is = elim (which s.calls of i (Some u) n j x is) as (λ _. Named j x) [
      | inl it ↦ subst (Named j) (one_of u x it.2) (owns, λ b its_block. absurd (had_none j b it.1 its_block))
      | inr was ↦ made.named n j x was.1
    ]

    begins_whose : (j b : ℕ) → IsItsBlock known j b → (n : ℕ) × (x : UnderWay K V K) × (begun n j ≡ Some x)
    begins_whose j b its_block =
        let before = made.whose j b its_block in (before.0, before.1, calls_beside s.calls of i (Some u) before.0 j (λ e. had_none j b e its_block) ∙ before.2)

  -- who had as much has as much still
  has_as_much : (n j : ℕ) (x : UnderWay K V K) → s.calls n j ≡ Some x → (d : CallThere K V) → HadAsMuch name m j d → HasBlock known j d.has_block
  has_as_much n j x is d had = subst (HasBlock known j) (sym had.2.0) (made.has n j x is had.0 had.1)

  -- of one in which a call goes on as a machine with the same block

  module _ (of i : ℕ) (u : UnderWay K V K) (here : s.calls of i ≡ Some u) (next : UnderWay K V K) (goes : OwnsSo (machine_of next) × (own_word (machine_of next) ≡ own_word (machine_of u))) where
    abbrev on : ℕ → ℕ → Option (UnderWay K V K)
    on = with_in s.calls of i (Some next)

    on_there : (n j : ℕ) (x : UnderWay K V K) → on n j ≡ Some x → (y : UnderWay K V K) × (s.calls n j ≡ Some y)
    on_there n j x is = elim (which s.calls of i (Some next) n j x is) as (λ _. (y : UnderWay K V K) × (s.calls n j ≡ Some y)) [
      | inl it ↦ (u, ap (λ (k : ℕ). s.calls k j) it.0 ∙ ap (s.calls of) it.1 ∙ here)
      | inr was ↦ (x, was.1)
    ]

    on_named : (n j : ℕ) (x : UnderWay K V K) → on n j ≡ Some x → Named j x
    on_named n j x is = elim (which s.calls of i (Some next) n j x is) as (λ _. Named j x) [
      | inl it ↦
          subst (λ (k : ℕ). Named k x) (sym it.1) (subst (Named i) (one_of next x it.2) (goes.0, subst (NamesBlock known i) (sym goes.1) (made.named of i u here).1))
      | inr was ↦ made.named n j x was.1
    ]

    abbrev OnHasOne : ℕ → Type 0
    OnHasOne j = (n : ℕ) × (x : UnderWay K V K) × (on n j ≡ Some x)

    on_whose : (j b : ℕ) → IsItsBlock known j b → OnHasOne j
    on_whose j b its_block = elim (cases_eq j i) as (λ _. OnHasOne j) [
      | inl e ↦ subst OnHasOne (sym e) (of, next, calls_its s.calls of i (Some next))
      | inr ne ↦ let before = made.whose j b its_block in (before.0, before.1, calls_beside s.calls of i (Some next) before.0 j ne ∙ before.2)
    ]

  -- of one in which a call without a block is there no more

  module _ (of i : ℕ) (u : UnderWay K V K) (here : s.calls of i ≡ Some u) (without : own_word (machine_of u) ≡ 0) where
    off_whose : (j b : ℕ) → IsItsBlock known j b → (n : ℕ) × (x : UnderWay K V K) × (with_in s.calls of i None n j ≡ Some x)
    off_whose j b its_block =
        let before = made.whose j b its_block in
        let ne : j ≢ i = λ e. ((made.named of i u here).1 b (subst (λ (k : ℕ). IsItsBlock known k b) e its_block)).0 without in (before.0, before.1, calls_beside s.calls of i None before.0 j ne ∙ before.2)

module _ (K V : Type 0) where
  pub calls_begin_made : CallsBeginMade K V
  calls_begin_made name m known s made map i u call guard apart owns = record {
    has = begins_has name m known s made map i u call guard apart owns;
    named = begins_named name m known s made map i u call guard apart owns;
    whose = begins_whose name m known s made map i u call guard apart owns;
  }

  pub calls_take_made : CallsTakeMade K V
  calls_take_made same name m known s whole made of i u here reply next goes is_told =
      let shown = whole.all.shown.calls in
      let t = told_machine (machine_of u) reply (made.named of i u here).0 in
      let on : OwnsSo (machine_of next) × (own_word (machine_of next) ≡ own_word (machine_of u)) = (subst OwnsSo (sym goes) t.0, ap own_word goes ∙ t.1) in
      record {
        has = λ n j x is d d_is.
            let was = on_there name m known s made of i u here next on n j x is in
            has_as_much name m known s made n j was.0 was.1 d (told_had name m same s.calls shown (name i) is_told n j was.0 was.1 d d_is);
        named = on_named name m known s made of i u here next on;
        whose = on_whose name m known s made of i u here next on;
      }

  pub calls_come_to_made : CallsComeToMade K V
  calls_come_to_made same name m known s whole made own o steps ended = record {
    has = λ n j x is d d_is. has_as_much name m known s made n j x is d (come_had name m same s.calls whole.all.shown.calls own o steps n j x is (λ e. ended e n j x is) d d_is);
    named = made.named;
    whose = made.whose;
  }

  -- a walk, which has no block

  asked_machine : (y : Machine K V K) → OwnsSo y → OwnsSo (machine_asked y).0 × (own_word (machine_asked y).0 ≡ own_word y)
  asked_machine (kinds.Key p) o = (o, refl)
  asked_machine (kinds.Reserve r) o = (tt, refl)
  asked_machine (kinds.Sweep c) o = (tt, refl)
  asked_machine (kinds.Count sum) o = (tt, refl)

  pub stopped_none : (y : Machine K V K) → true ≡ (machine_asked y).1 → own_word y ≡ 0
  stopped_none (kinds.Key p) e = absurd (cc e)
  stopped_none (kinds.Reserve r) e = refl
  stopped_none (kinds.Sweep c) e = refl
  stopped_none (kinds.Count sum) e = refl

  goes_made : (name : ℕ → List ℕ) (m : Moment K V) (known : Known) (s : Scene K V) → RefinesMade name m known s → (of i : ℕ) (u : UnderWay K V K) → s.calls of i ≡ Some u → (next : UnderWay K V K)
      → OwnsSo (machine_of next) × (own_word (machine_of next) ≡ own_word (machine_of u))
      → RefinesMade name m known (record s { calls = with_in s.calls of i (Some next) })
  goes_made name m known s made of i u here next on = record {
    has = λ n j x is c c_is. let was = on_there name m known s made of i u here next on n j x is in made.has n j was.0 was.1 c c_is;
    named = on_named name m known s made of i u here next on;
    whose = on_whose name m known s made of i u here next on;
  }

module _ (K V : Type 0) (same : K → K → Bool) (hash : ℕ → K → ℕ) where
  pub walks_go_on_made : WalksPreserveMade K V same hash
  walks_go_on_made name m known s old new made i leads map u here =
      let to = leads map u here in
      let a = asked_machine K V (machine_of u) (made.named map i u here).0 in
      goes_made K V name m known s made map i u here to.0 (subst OwnsSo (sym to.1) a.0, ap own_word to.1 ∙ a.1)

  pub walks_stop_made : WalksStopMade K V same hash
  walks_stop_made name m known s old new shown made i stopped leads map u here = by stopped (leads map u here).0
    where
      at_end : Bool → Scene K V
      at_end q = record s { calls = with_in s.calls map i (unless_stopped q u) }

      by : (q : Bool) → q ≡ (machine_asked (machine_of u)).1 → (q ≡ true → NoneNamed name (name i) (at_end q)) → RefinesMade name (given_up (name i) q m) known (at_end q)
      by true e none =
          let without = stopped_none K V (machine_of u) e in
          record {
            has = λ n j x is d d_is.
                let was = calls_without s.calls map i n j x is in
                has_as_much name m known s made n j x was d (left_had name m same s.calls shown.calls (name i) n j x was (none refl n j x is) d d_is);
            named = λ n j x is. made.named n j x (calls_without s.calls map i n j x is);
            whose = off_whose name m known s made map i u here without;
          }
      by false e none = goes_made K V name m known s made map i u here u ((made.named map i u here).0, refl)
