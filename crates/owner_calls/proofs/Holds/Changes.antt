-- A change of one owner's map, after a refresh, keeps what the map had, and some of what its memory held beside it.
use Rattle.std.specs.Prelude.{◌≡◌, ℕ, ◌⊎◌, Bool, List, [], ◌∷◌, Option, Some, None, Result, Ok, Err}
use Rattle.std.proofs.Common.{sym, ◌∙◌, inl, inr}
use denote.Ref.{Bor}
use Rattle.seize_words.specs.OneMemory.Mem.{Mem, value_at}
use Rattle.seize_words.specs.OneMemory.Word.{block_in}
use Rattle.seize_words.specs.declared.fault.Fault.{Fault}
use Rattle.map_tables.specs.declared.node.Node.{Node}
use Rattle.map_tables.specs.declared.node.Node.TheVariants as node
use Rattle.map_tables.specs.declared.setting.Setting.{Setting}
use Rattle.papaya_raw.specs.Given.ReservesDeclared.sweep.Purpose.{Purpose}
use Rattle.map_straight.specs.Given.ResizeNewMap.{new_map_plan}
use Rattle.papaya_raw.specs.declared.machines.answer.KeyAnswer.{KeyAnswer}
use Rattle.papaya_raw.specs.declared.machines.answer.KeyAnswer.TheVariants as answers
use Rattle.owner_whole.specs.Given.CallersPairs.{Given}
use Rattle.owner_calls.specs.Owned.Calling.{HasStopped}
use Rattle.owner_whole.specs.Strides.Ending.{HasCome, HasEnded}
use Rattle.owner_calls.specs.Owned.Machines.{for_room_plan}
use Rattle.owner_calls.specs.Owned.Owned.{Holds}
use Rattle.owner_whole.specs.Strides.Standing.{Standing}
use Rattle.owner_calls.specs.declared.machines.ForRoom.{ForRoom}
use Rattle.owner_calls.specs.declared.machines.Stop.TheVariants as stop
use Rattle.owner_calls.proofs.Owned.Owned.Standing.{pairs_stand}
use Rattle.owner_calls.specs.Sifts.Sweeping.{HasSwept}
use Rattle.owner_calls.specs.Holds.Came.{StandsAt, NoneCame, NoneCameBut, CameBy, stored_by}
use Rattle.owner_calls.specs.Holds.Held.{HoldsOn, held_in, pair_at_word}
use Rattle.owner_calls.proofs.Holds.Calls.Held.{calls_take_none_away}
use Rattle.owner_calls.proofs.Holds.Lists.Kept.{answer_keeps, none_held, none_keeps}
use Rattle.owner_calls.proofs.Holds.Runs.None.{makings_put_none, rooms_put_none}
use Rattle.owner_calls.proofs.Holds.Sweeps.Held.{sweeps_take_none_away}

-- A map was made where there was no pair.
pub making_holds_none : {K V : Type 0} (m m2 : Mem (Node K V)) → ((b : ℕ) → value_at m b ≡ None) → HasEnded (new_map_plan {K = K} {V = V}) m m2 → held_in m2 ≡ []
making_holds_none {K} {V} m m2 bare ran =
    none_held m2 (makings_put_none K V ran.0 m ran.3 ran.1 m2 ran.2 ran.4 (λ b x there. let e : ◌≡◌ {A = Option (Node K V)} None (Some (node.Pair x.0 x.1)) = sym (bare b) ∙ there in cc e))

-- No pair has come from the one to the other: what stands there stood before.
stood_before : {K V : Type 0} (m0 m : Mem (Node K V)) → NoneCame m0 m → (blocks : List ℕ) (xs : List (K × V)) → Standing m blocks xs → Standing m0 blocks xs
stood_before m0 m none [] [] s = tt
stood_before m0 m none (b ∷ blocks) (x ∷ xs) s = (none b x s.0, s.1, stood_before m0 m none blocks xs s.2)
stood_before m0 m none [] (x ∷ xs) s = absurd s
stood_before m0 m none (b ∷ blocks) [] s = absurd s

module _ {K V : Type 0} (m0 m1 : Mem (Node K V)) (none : NoneCame m0 m1) where
  module _ (m2 : Mem (Node K V)) where
    none_since : NoneCame m1 m2 → NoneCame m0 m2
    none_since more b x there = none b x (more b x there)

    but_since : (c : ℕ) → NoneCameBut m1 m2 c → NoneCameBut m0 m2 c
    but_since c but b x there = elim (but b x there) as (λ _. StandsAt m0 b x ⊎ (b ≡ c)) [
      | inl before ↦ inl (none b x before)
      | inr its ↦ inr its
    ]

    came_since : (answer : KeyAnswer) → CameBy m1 m2 answer → CameBy m0 m2 answer
    came_since answers.Absent came = none_since came
    came_since (answers.Found word) came = none_since came
    came_since (answers.Stored word) came = but_since (block_in word) came
    came_since (answers.Replaced old new) came = but_since (block_in new) came
    came_since (answers.Removed word) came = none_since came

  -- A change of a map with these pairs was made then.
  module _ {S : Type 0} (same : K → K → Bool) (hashes : S → K → ℕ) (b : Bor S) (setting : Setting) (xs : List (K × V)) (h : Holds same (hashes b.now) setting m1 xs) (m2 : Mem (Node K V)) where
    pub call_holds_on : {Q : Type 0} (asks : Q → K → Bool) (keys : K → Bool) (given : Given K V) (answer : KeyAnswer) → HasStopped asks same hashes b setting m1 keys given m2 (Ok (stop.Answered answer))
        → HoldsOn (pair_at_word m2 (stored_by answer)) xs (held_in m0) (held_in m2)
    call_holds_on {Q} asks keys given answer ran =
        let t = calls_take_none_away K V Q S asks same hashes b setting m1 keys given xs h ran.0 ran.1 ran.2 ran.3 m2 (Ok (stop.Answered answer)) ran.4 in
        answer_keeps m0 m2 t.1.0 xs (stood_before m0 m1 none t.1.0 xs t.1.1) t.1.2 answer (came_since m2 answer t.0) t.1.3

    pub refused_holds_on : {Q : Type 0} (asks : Q → K → Bool) (keys : K → Bool) (given : Given K V) (fault : Fault) → HasStopped asks same hashes b setting m1 keys given m2 (Err fault) → HoldsOn [] xs (held_in m0) (held_in m2)
    refused_holds_on {Q} asks keys given fault ran =
        let t = calls_take_none_away K V Q S asks same hashes b setting m1 keys given xs h ran.0 ran.1 ran.2 ran.3 m2 (Err fault) ran.4 in
        none_keeps m0 m2 t.1.0 xs (stood_before m0 m1 none t.1.0 xs t.1.1) t.1.2 (none_since m2 t.0)

    pub sweep_holds_on : {purpose : Purpose} {result : Result Unit Fault} → HasSwept hashes b setting purpose m1 m2 result → HoldsOn [] xs (held_in m0) (held_in m2)
    sweep_holds_on {purpose} {result} ran =
        let t = sweeps_take_none_away K V S same hashes b setting m1 xs h purpose ran.0 ran.1 ran.2 ran.3 m2 ran.4 ran.5 in
        none_keeps m0 m2 t.1.0 xs (stood_before m0 m1 none t.1.0 xs t.1.1) t.1.2 (none_since m2 t.0)

    pub room_holds_on : {x : ForRoom S} {result : Result Unit Fault} → HasCome (for_room_plan {K = K} {V = V} hashes) x m1 m2 result → Holds same (hashes b.now) setting m2 xs → HoldsOn [] xs (held_in m0) (held_in m2)
    room_holds_on {x} {result} ran after =
        let since = none_since m2 (rooms_put_none K V S hashes x m1 ran.1 ran.0 m2 result ran.2) in
        let p = pairs_stand same (hashes b.now) setting m2 xs after in none_keeps m0 m2 p.0 xs (stood_before m0 m2 since p.0 xs p.1) p.1 since

-- A map's pairs are among what its memory holds.
pub holds_its_own : {K V : Type 0} (same : K → K → Bool) (hash : K → ℕ) (setting : Setting) (m : Mem (Node K V)) (xs : List (K × V)) → Holds same hash setting m xs → HoldsOn [] xs (held_in m) (held_in m)
holds_its_own same hash setting m xs h = let p = pairs_stand same hash setting m xs h in none_keeps m m p.0 xs p.1 p.1 (λ b x there. there)
