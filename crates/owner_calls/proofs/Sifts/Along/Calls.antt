-- A call on one key of one owner's map, from question to question: what each step and each reply keeps is so all the while.
use Rattle.std.specs.Prelude.{◌≡◌, ℕ, Bool, List, Option, Some, None, Result, Ok, Err}
use Rattle.std.proofs.Common.{refl, sym, ap, subst}
use denote.Ref.{Bor}
use Rattle.seize_words.specs.OneMemory.Mem.{Mem, Took, value_at}
use Rattle.seize_words.specs.OneMemory.Plan.{Steps}
use Rattle.seize_words.specs.declared.fault.Fault.{Fault}
use Rattle.seize.specs.World.{World}
use Rattle.seize.specs.declared.advance.Advance.{Advance}
use Rattle.map_tables.specs.declared.node.Node.{Node}
use Rattle.map_tables.specs.declared.setting.Setting.{Setting}
use Rattle.papaya_raw.specs.Call.{call_plan}
use Rattle.papaya_raw.specs.CallAsks.{replied}
use Rattle.papaya_raw.specs.declared.machines.answer.Called.{Called}
use Rattle.papaya_raw.specs.declared.machines.answer.Called.TheVariants as called
use Rattle.papaya_raw.specs.declared.machines.answer.KeyAnswer.{KeyAnswer}
use Rattle.papaya_raw.specs.declared.machines.asking.Asking.{Asking}
use Rattle.papaya_raw.specs.declared.machines.asking.MachineReply.{MachineReply}
use Rattle.papaya_raw.specs.declared.machines.call.Calling.TheVariants as at
use Rattle.papaya_raw.specs.declared.machines.call.KeyCall.{KeyCall}
use Rattle.map_straight.specs.Given.RuleChart.{Chart}
use Rattle.map_straight.specs.Given.RuleWords.{Blocks}
use Rattle.owner_whole.specs.Given.CallersPairs.{Given}
use Rattle.owner_whole.specs.Given.CallersSights.{Visible}
use Rattle.owner_whole.specs.Given.CallersTogether.{CallOnKey, OnKey as OnKeyOf, IsBegun, begun_at, replied_about}
use Rattle.owner_whole.proofs.Whole.Keys.Begins.{calls_begin_alone}
use Rattle.owner_whole.proofs.Whole.Keys.Replies.{replies_lead_on}
use Rattle.owner_whole.proofs.Whole.Keys.Whole.{calls_go_on_alone}
use Rattle.owner_whole.specs.Whole.Owner.{IsAlone}
use Rattle.owner_whole.specs.Whole.Whole.{StepLeads, then_so}
use Rattle.owner_calls.specs.Owned.Calling.{IsCalling, begun, asked}
use Rattle.owner_whole.specs.Strides.Ending.{RunsTo}
use Rattle.owner_calls.specs.Owned.Machines.{on_key_after, on_key_plan, on_key_settled}
use Rattle.owner_calls.specs.Owned.Owned.{Holds}
use Rattle.owner_calls.specs.declared.machines.OnKey.{OnKey}
use Rattle.owner_calls.specs.declared.machines.Stop.{Stop}
use Rattle.owner_calls.specs.declared.machines.Stop.TheVariants as stop
use Rattle.owner_calls.proofs.Owned.Owned.Rests.{rests_as}
use Rattle.owner_whole.proofs.Strides.Runs.Comes.{NextOf, next_turned, run_comes}

module _ {K V Q S : Type 0} (asks : Q → K → Bool) (same : K → K → Bool) (hashes : S → K → ℕ) (b : Bor S) (setting : Setting) (m0 : Mem (Node K V)) (xs : List (K × V)) (h : Holds same (hashes b.now) setting m0 xs) where
  abbrev hash : K → ℕ
  hash = hashes b.now

  abbrev slot_of : ℕ → ℕ
  slot_of i = setting.slot

  abbrev it : KeyCall K V Q → Option (Node K V) → OnKey K V Q S
  it p unstored = record { call = p; hasher = b; unstored = unstored }

  abbrev pub AloneIn : World (Node K V) → Chart K → Blocks → (ℕ → Visible) → CallOnKey K V Q → Type 0
  AloneIn w c blocks sights u = IsAlone same hash asks setting slot_of w c blocks sights (OnKeyOf u)

  -- by what is kept of a call, of the memory and of its map, and by what the call gives with its answer, or with its refusal
  module _ (Keeps : CallOnKey K V Q → Mem (Node K V) → Chart K → Blocks → Type 0) (Gives : Mem (Node K V) → Result KeyAnswer Fault → Type 0) where
    -- what a step gives, by what the call tells
    abbrev pub GivesTold : Mem (Node K V) → Called (Node K V) → Type 0
    GivesTold m told = ((answer : KeyAnswer) → told ≡ called.Done answer → Gives m (Ok answer)) × ((fault : Fault) → told ≡ called.Refused fault → Gives m (Err fault))

    -- Each step keeps it, and gives what it is to give.
    abbrev pub StepsKeep : Type 0
    StepsKeep =
        (w : World (Node K V)) (c : Chart K) (blocks : Blocks) (sights : ℕ → Visible) (u : CallOnKey K V Q) → AloneIn w c blocks sights u → Keeps u w.memory c blocks
        → (m2 : Mem (Node K V)) (p2 : KeyCall K V Q) (told : Called (Node K V)) → Steps Took value_at w.memory (call_plan asks same hash u.call) m2 (p2, told)
        → (l : StepLeads same hash asks setting slot_of w c blocks u m2 p2 told) → Keeps (then_so u l.change2 p2) m2 l.c2 l.blocks2 × GivesTold m2 told

    -- So does each reply.
    abbrev pub RepliesKeep : Type 0
    RepliesKeep = (m : Mem (Node K V)) (c : Chart K) (blocks : Blocks) (u : CallOnKey K V Q) → Keeps u m c blocks → (about : Option ℕ) (told : MachineReply V) → Keeps (replied_about u about told) m c blocks

    -- it is under way, and alone, and that is so
    pub record Course (u : CallOnKey K V Q) (m : Mem (Node K V)) : Type 0 where
      pub w : World (Node K V)
      pub c : Chart K
      pub blocks : Blocks
      pub sights : ℕ → Visible
      pub alone : AloneIn w c blocks sights u
      pub memory : w.memory ≡ m
      pub kept : Keeps u m c blocks

    pub record Under (x : OnKey K V Q S) (m : Mem (Node K V)) : Type 0 where
      pub u : CallOnKey K V Q
      pub unstored : Option (Node K V)
      pub is : x ≡ it u.call unstored
      pub course : Course u m

    pub record AsksAt (x : OnKey K V Q S) (m : Mem (Node K V)) : Type 0 where
      pub under : Under x m
      pub asks_at : Asking
      pub stands : under.u.call.stands ≡ at.Asks asks_at

    -- where it stops
    abbrev pub StopsAt : OnKey K V Q S → Mem (Node K V) → Result Stop Fault → Type 0
    StopsAt x m (Ok (stop.Answered answer)) = Gives m (Ok answer)
    StopsAt x m (Ok (stop.Asks about)) = AsksAt x m
    StopsAt x m (Err fault) = Gives m (Err fault)

    -- where a step of its machine leads
    abbrev Next : OnKey K V Q S → Mem (Node K V) → Advance Stop → Type 0
    Next = NextOf Under StopsAt

    module _ (steps : StepsKeep) (replies : RepliesKeep) where
      module _ (u : CallOnKey K V Q) (m : Mem (Node K V)) (here : Course u m) (m2 : Mem (Node K V)) (p2 : KeyCall K V Q) (told : Called (Node K V)) (s : Steps Took value_at m (call_plan asks same hash u.call) m2 (p2, told)) where
        from_here : Steps Took value_at here.w.memory (call_plan asks same hash u.call) m2 (p2, told)
        from_here = subst (λ (y : Mem (Node K V)). Steps Took value_at y (call_plan asks same hash u.call) m2 (p2, told)) (sym here.memory) s

        led : StepLeads same hash asks setting slot_of here.w here.c here.blocks u m2 p2 told
        led = (calls_go_on_alone same hash asks setting slot_of h.lawful h.initial here.w here.c here.blocks here.sights u here.alone).1 m2 p2 told from_here

        abbrev next_call : CallOnKey K V Q
        next_call = then_so u led.change2 p2

        kept_then : Keeps next_call m2 led.c2 led.blocks2 × GivesTold m2 told
        kept_then = steps here.w here.c here.blocks here.sights u here.alone (subst (λ (y : Mem (Node K V)). Keeps u y here.c here.blocks) (sym here.memory) here.kept) m2 p2 told from_here led

        under_of : (unstored : Option (Node K V)) → AloneIn led.w2 led.c2 led.blocks2 led.sights2 next_call → Under (it p2 unstored) m2
        under_of unstored alone = record {
          u = next_call;
          unstored = unstored;
          is = refl;
          course = record {
            w = led.w2;
            c = led.c2;
            blocks = led.blocks2;
            sights = led.sights2;
            alone = alone;
            memory = led.memory;
            kept = kept_then.0;
          };
        }

      next_by : (u : CallOnKey K V Q) (unstored : Option (Node K V)) (m : Mem (Node K V)) (here : Course u m) (m2 : Mem (Node K V)) (p2 : KeyCall K V Q) (told : Called (Node K V)) (s : Steps Took value_at m (call_plan asks same hash u.call) m2 (p2, told))
          → Next (on_key_settled (it p2 unstored) told).0 m2 (on_key_settled (it p2 unstored) told).1
      unfolding under_of
      next_by u unstored m here m2 p2 called.Goes s = under_of u m here m2 p2 called.Goes s unstored (led u m here m2 p2 called.Goes s).leads
      next_by u unstored m here m2 p2 called.Waits s = absurd ((led u m here m2 p2 called.Waits s).leads)
      next_by u unstored m here m2 p2 (called.Gave value) s = under_of u m here m2 p2 (called.Gave value) s unstored (led u m here m2 p2 (called.Gave value) s).leads.0
      next_by u unstored m here m2 p2 (called.Unstored value) s = under_of u m here m2 p2 (called.Unstored value) s (Some value) (led u m here m2 p2 (called.Unstored value) s).leads
      next_by u unstored m here m2 p2 (called.Asks about) s =
          let l = (led u m here m2 p2 (called.Asks about) s).leads in record { under = under_of u m here m2 p2 (called.Asks about) s unstored l.0; asks_at = l.1; stands = l.2 }
      next_by u unstored m here m2 p2 (called.Done answer) s = (kept_then u m here m2 p2 (called.Done answer) s).1.0 answer refl
      next_by u unstored m here m2 p2 (called.Refused fault) s = (kept_then u m here m2 p2 (called.Refused fault) s).1.1 fault refl

      under_step : (x : OnKey K V Q S) (m : Mem (Node K V)) → Under x m → (m2 : Mem (Node K V)) (end : OnKey K V Q S × Advance Stop) → Steps Took value_at m (on_key_plan asks same hashes x) m2 end → Next end.0 m2 end.1
      under_step x m v m2 end s =
          next_turned Under StopsAt (on_key_after (it v.u.call v.unstored)) m m2 (call_plan asks same hash v.u.call) (λ e. next_by v.u v.unstored m v.course m2 e.0 e.1) end
          (subst (λ (y : OnKey K V Q S). Steps Took value_at m (on_key_plan asks same hashes y) m2 end) v.is s)

      -- told anything, it is under way again
      told_on : (x : OnKey K V Q S) (m : Mem (Node K V)) → AsksAt x m → (told : MachineReply V) → Under (record x { call = (replied x.call told).0 }) m
      told_on x m a told =
          let v = a.under in
          let c = v.course in
          let law = replies_lead_on same hash asks setting slot_of h.lawful h.initial c.w c.c c.blocks c.sights v.u c.alone a.asks_at a.stands in
          record {
            u = replied_about v.u law.0.0 told;
            unstored = v.unstored;
            is = ap (λ (y : OnKey K V Q S). record y { call = (replied y.call told).0 }) v.is;
            course = record {
              w = c.w;
              c = c.c;
              blocks = c.blocks;
              sights = c.sights;
              alone = law.3 law.0.0 law.0.1 told;
              memory = c.memory;
              kept = replies m c.c c.blocks v.u c.kept law.0.0 told;
            };
          }

      -- where it is so as the call begins
      module _ (keys : K → Bool) (given : Given K V)
          (first : (call : KeyCall K V Q) → IsBegun V same hash asks setting slot_of 0 keys given call → Keeps (begun_at V same hash asks setting slot_of h.chart keys given call) m0 h.chart h.blocks) where
        begins : (call : KeyCall K V Q) → IsBegun V same hash asks setting slot_of 0 keys given call → Under (it call None) m0
        begins call is = record {
          u = begun_at V same hash asks setting slot_of h.chart keys given call;
          unstored = None;
          is = refl;
          course = record {
            w = h.world;
            c = h.chart;
            blocks = h.blocks;
            sights = h.sights;
            alone = calls_begin_alone same hash asks setting slot_of h.lawful h.world h.chart h.blocks h.sights
                (rests_as same hash setting h.incremental slot_of same asks h.world h.chart h.blocks h.sights h.rests) keys given call is;
            memory = h.memory;
            kept = first call is;
          };
        }

        pub kept_along : (x : OnKey K V Q S) (m : Mem (Node K V)) → IsCalling asks same hashes b setting m0 keys given x m → (x2 : OnKey K V Q S) (m2 : Mem (Node K V)) (result : Result Stop Fault)
            → RunsTo (on_key_plan asks same hashes) x m x2 m2 result → StopsAt x2 m2 result
        kept_along _ _ (begun call is) = run_comes Under StopsAt (on_key_plan asks same hashes) under_step _ m0 (begins call is)
        kept_along _ _ (asked x m before x2 m2 about runs told) =
            run_comes Under StopsAt (on_key_plan asks same hashes) under_step _ m2 (told_on x2 m2 (kept_along x m before x2 m2 (Ok (stop.Asks about)) runs) told)
