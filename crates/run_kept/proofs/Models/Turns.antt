-- Rows that run to their ends one after another, as they begin, go on and end, and what happens between them.
use Rattle.std.specs.Prelude.{Option, Some, None, IsSome}
use Rattle.std.proofs.Common.{◌≡◌, ◌≤◌, ◌<◌, ◌^◌, ◌+◌, ℕ, suc, List, [], ◌∷◌, ◌++◌, refl, ap, sym, subst}
use Rattle.std.proofs.Math.Path.{fun_ext}
use Rattle.std.proofs.lemmas.List.{append-nil}
use Rattle.seize.specs.Sequence.{Turn, Whole, Between, IsBetween, IsUsers, Calls, TakesTurns, changes, ended_by}
use Rattle.seize.specs.WaitingSets.{Change, at_start as sets_at_start}
use Rattle.seize.specs.World.{World, Row, Rests, Request, Event, Begin, Step, Ends, LeavesOver, Relinks, Clears, Hand, Handed, IsInside, at_start}
use Rattle.seize.specs.declared.states.TheConstants.{LAST_SLOT}
use Rattle.run_schedules.specs.Given.SeizeWordsMem.{value_at}
use Rattle.run_executor.specs.Given.SeizeWaitingHeld.{count, Every}
use Rattle.run_executor.proofs.Given.SeizeRulePoints.Aside.{HandFits}
use Rattle.run_executor.proofs.Given.SeizeMemoryWords.There.{value_there}
use Rattle.run_executor.proofs.Given.SeizeRuleWorld.Rested.{Rested, start_rested, turns_rested}
use Rattle.run_executor.proofs.Given.SeizeSetsTurns.All.{rows_follow, turns_shown, start_shown}
use Rattle.run_executor.proofs.Given.SeizeSetsTurns.Append.{turns_append}
use Rattle.run_executor.proofs.Given.SeizeSetsTurns.Begins.{Shown}
use Rattle.run_executor.specs.Given.SeizeAloneAlone.{History, IsHistory, at_rest}
use Rattle.run_blocks.proofs.Given.SeizeAloneLaws.{waiting_was_handed, carriers_are_there, carriers_have_lists, insides_are_active}
use Rattle.run_executor.proofs.Given.SeizeAloneWhole.Register.{steps_more, steps_end}
use Rattle.run_kept.specs.Models.Alike.{AllAre}
use Rattle.run_kept.specs.Models.Turns.{sets_of, CameByTurns, IsInRow, TurnsBegin, RowsBegin, RowsContinue, RowsEnd, EventsFollow, UsersFollow}
use Rattle.run_kept.proofs.Models.Alike.Again.{all_are}
use Rattle.run_blocks.proofs.Given.FinishesBeside.Makings.Outs.{handed_lives}

-- an event of users changes no waiting sets
users_between : {T : Type 0} (e : Event T) → IsUsers e → IsBetween e × (ended_by e ≡ [])
users_between (Begin i request) is = absurd is
users_between (Step i) is = absurd is
users_between (Ends i o) is = absurd is
users_between (LeavesOver i b further) is = absurd is
users_between (Relinks i b word) is = absurd is
users_between (Clears i b) is = absurd is
users_between _ is = (tt, refl)

module _ {T : Type 0} (defers : T → Option ℕ) (batch_size roots : ℕ) where
  pub turns_begin : TurnsBegin T defers batch_size roots
  turns_begin = ([], (refl, refl))

  -- one turn more
  more_turns : (w n : World T) (before further : List Change) → CameByTurns defers batch_size roots w before → (turn : Turn T)
      → TakesTurns defers batch_size (turn ∷ []) w n further → CameByTurns defers batch_size roots n (before ++ further)
  more_turns w n before further came turn takes =
      (came.0 ++ turn ∷ [], turns_append defers batch_size came.0 (turn ∷ []) (at_start defers roots) w n before further came.1 takes)

  pub rows_begin : RowsBegin T defers batch_size roots
  rows_begin v w before came i request rests begins = record { came = came; rested = rests; begun = w; begins = begins; steps = 0; runs = refl }

  pub rows_go_on : RowsContinue T defers batch_size roots
  rows_go_on i request v w n before r step = record {
    came = r.came;
    rested = r.rested;
    begun = r.begun;
    begins = r.begins;
    steps = suc r.steps;
    runs = steps_more defers i r.steps r.begun w n r.runs step;
  }

  called : (i : ℕ) (request : Request) (v w : World T) (before : List Change) → IsInRow defers batch_size roots i request v before w → w.row i ≡ Rests
      → Calls defers batch_size i request v w
  called i request v w before r rests = (r.begun, r.steps, r.rested, r.begins, steps_end defers i r.steps r.begun w r.runs rests)

  pub rows_end : RowsEnd T defers batch_size roots
  rows_end small i request v w before r rests =
      let call = called i request v w before r rests in record {
        came = more_turns v w before (changes request v.uses w.uses) r.came (Whole i request) (w, [], call, (refl, refl), sym (append-nil (changes request v.uses w.uses)));
        taken = rows_follow defers batch_size roots r.came.0 v w before i request small r.came.1 call;
      }

  pub events_follow : EventsFollow T defers batch_size roots
  events_follow w n before came e is happens = more_turns w n before (ended_by e) came (Between e) (n, [], is, happens, (refl, refl), sym (append-nil (ended_by e)))

  pub users_follow : UsersFollow T defers batch_size roots
  users_follow w n before came [] all runs = subst (λ (u : World T). CameByTurns defers batch_size roots u before) (sym runs) came
  users_follow w n before came (e ∷ events) all runs =
      let is = users_between e all.0 in
      let next : CameByTurns defers batch_size roots runs.0 (before ++ []) =
      subst (λ (cs : List Change). CameByTurns defers batch_size roots runs.0 (before ++ cs)) is.1 (events_follow w runs.0 before came e is.0 runs.1) in
      users_follow runs.0 n before (subst (λ (cs : List Change). CameByTurns defers batch_size roots runs.0 cs) (append-nil before) next) events all.1 runs.2

  -- What stands in the waiting sets is there.
  module _ (small : batch_size < 2 ^ 64) (w : World T) (before : List Change) (came : CameByTurns defers batch_size roots w before) where
    pub rested : Rested defers (LAST_SLOT + 1) batch_size w
    rested = turns_rested defers (LAST_SLOT + 1) batch_size refl came.0 (at_start defers roots) w before (start_rested defers (LAST_SLOT + 1) batch_size refl roots) came.1

    shown : Shown defers (LAST_SLOT + 1) batch_size w (sets_of batch_size before)
    shown =
        turns_shown defers (LAST_SLOT + 1) batch_size refl small came.0 (at_start defers roots) w before sets_at_start
        (start_shown defers (LAST_SLOT + 1) batch_size refl small roots) came.1

    abbrev so_far : History
    so_far = record { before = before; uses = w.uses; hand = w.hand; log = w.log }

    all_rest : w ≡ at_rest defers w.memory so_far
    all_rest = ap (λ (rows : ℕ → Row). record { memory = w.memory; row = rows; uses = w.uses; hand = w.hand; log = w.log }) (fun_ext rested.rests)

    history : IsHistory defers batch_size roots w.memory so_far
    history = (came.0, subst (λ (u : World T). TakesTurns defers batch_size came.0 (at_start defers roots) u before) all_rest came.1)

    there : (b : ℕ) → w.hand b ≡ Handed → IsSome (value_at w.memory b)
    there b handed =
        value_there defers (LAST_SLOT + 1) w.memory rested.good.state rested.good.extra b rested.good.shows
        (handed_lives (rested.good.state.life b) (subst (λ (h : Hand). HandFits h (rested.good.state.life b)) handed (rested.good.hands b)))

    pub all_there : AllAre (λ b. IsSome (value_at w.memory b)) (sets_of batch_size before)
    all_there =
        all_are (λ b. IsSome (value_at w.memory b)) (sets_of batch_size before) shown.models.unused
        (λ b ne. there b (waiting_was_handed defers batch_size roots w.memory so_far history small b ne)) (carriers_are_there defers batch_size roots w.memory so_far history small)

    -- the values behind which others wait have lists
    pub all_have_lists : Every (λ f. (value : T) → value_at w.memory f.behind ≡ Some value → defers value ≡ None → ⊥) (sets_of batch_size before).further
    all_have_lists = carriers_have_lists defers batch_size roots w.memory so_far history small

    -- a slot within a section is active in them
    pub inside_active : (s : ℕ) → IsInside (w.uses s) → 1 ≤ count s (sets_of batch_size before).active
    inside_active s inside = insides_are_active defers batch_size roots w.memory so_far history small s inside
