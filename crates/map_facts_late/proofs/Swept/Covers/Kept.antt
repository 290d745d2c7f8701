-- By a step of another caller a sweep stays at what it has come to; and so it does by one of its own that removes a pair.
use Rattle.std.specs.Prelude.{◌≡◌, ◌≢◌, ℕ, suc, ◌<◌, ◌≤◌, Bool, true, List}
use Rattle.std.proofs.Common.{refl, ap, inl, inr, sym, subst, ◌∙◌, arith}
use Rattle.map_facts.specs.Given.SeizeWorld.{World}
use Rattle.map_facts.specs.Given.SeizeWordsWord.{link_word}
use Rattle.map_facts.specs.Given.TablesChunks.{is_incremental}
use Rattle.map_facts.specs.Given.TablesDeclared.node.Node.{Node}
use Rattle.map_facts.specs.Given.TablesDeclared.setting.Setting.{Setting}
use Rattle.map_facts.specs.Given.TablesDeclared.table.Table.{Table}
use Rattle.map_facts.specs.Given.TablesDeclared.status.TheConstants.Status.{ABORTED}
use Rattle.map_facts.specs.Given.ReservesDeclared.sweep.Purpose.{Purpose}
use Rattle.map_facts.specs.Given.ReservesDeclared.sweep.Sweep.{Sweep}
use Rattle.map_facts.specs.Given.ReservesDeclared.sweep.Sweeping.{Sweeping}
use Rattle.map_facts.specs.Given.ReservesDeclared.sweep.Sweeping.TheVariants as at
use Rattle.map_facts.specs.Given.RuleChart.{Chart}
use Rattle.map_facts.specs.Given.RuleRule.{IsLawful, Rule}
use Rattle.map_facts.specs.Given.RuleMoves.{Move, after, Allowed}
use Rattle.map_facts.specs.Given.RuleWords.{Blocks, mark_bits, byte_of}
use Rattle.map_facts.specs.Given.RuleMaps.{spot_of, IsTable}
use Rattle.map_facts.specs.Given.RuleMoments.{Moments}
use Rattle.map_facts.specs.Given.RuleInWorld.{IsMapIn, Moved}
use Rattle.map_facts.proofs.Given.RuleHistory.History.{history_kept}
use Rattle.map_facts.proofs.Given.RuleMoves.Promised.{moves_keep}
use Rattle.map_facts_late.specs.Covers.{Came, Covers, Asked, NamesPair, CoversAt}
use Rattle.map_facts_late.specs.CoversSweeps.{SweepsStayCovered}
use Rattle.map_facts_late.specs.FactsSweeps.{GoesOver, SweepingFacts, SweepFacts}
use Rattle.map_facts_late.proofs.Swept.Covers.Lasts.{came_on, covers_on, asked_on}
use Rattle.map_facts_late.proofs.Swept.Covers.Places.{place_follows}
use Rattle.map_facts_late.proofs.Swept.Sweeps.Tables.{upto, live}

-- pairs that can be looked at can be looked at still
abbrev pub SamePairs : {K : Type 0} → Chart K → Blocks → Blocks → Type 0
SamePairs c blocks blocks2 = (n : ℕ) → n < c.stored → blocks.pair_known n ≡ true → (blocks2.pair n ≡ blocks.pair n) × (blocks2.pair_known n ≡ true)

-- and a word that names one names it on
pub names_on : {K : Type 0} (hash : K → ℕ) (c c2 : Chart K) (blocks blocks2 : Blocks) → c.stored ≤ c2.stored → ((n : ℕ) → n < c.stored → c2.key n ≡ c.key n) → SamePairs c blocks blocks2
    → (word n : ℕ) → NamesPair hash c blocks word n → NamesPair hash c2 blocks2 word n
names_on hash c c2 blocks blocks2 stored keys same_pairs word n (was, known, phase, borrowed, is) =
    let kept = same_pairs n was known in (
      omega (arith, was, stored),
      kept.1,
      phase,
      borrowed,
      is ∙ ap (λ (x : ℕ). link_word x (byte_of hash (c.key n)) (mark_bits phase borrowed)) (sym kept.0)
          ∙ ap (λ k. link_word (blocks2.pair n) (byte_of hash k) (mark_bits phase borrowed)) (sym (keys n was)),
    )

module _ {K : Type 0} (same : K → K → Bool) (spot : ℕ → K → ℕ → ℕ) (incremental : Bool) (lawful : IsLawful same spot) (c : Chart K) (rule : Rule same spot incremental c) (moments : Moments incremental c)
    (move : Move K) (allowed : Allowed same spot incremental move c) (entered : ℕ) (since : entered ≤ c.now) where
  moments2 : Moments incremental (after spot incremental move c)
  moments2 = (history_kept same spot incremental lawful move c rule moments allowed).0

  stored : c.stored ≤ (after spot incremental move c).stored
  stored = (moves_keep same spot incremental lawful move c rule allowed).1.stored

  pub came_after : (purpose : Purpose) (done : List ℕ) → Came c entered purpose done → Came (after spot incremental move c) entered purpose done
  came_after = came_on same spot incremental c (after spot incremental move c) rule moments moments2 (history_kept same spot incremental lawful move c rule moments allowed).1 stored entered since

  module _ (t : ℕ) (low : t ≤ c.first) (alive : c.status t ≢ ABORTED) (place : ℕ) (done : List ℕ) where
    pub covers_after : (purpose : Purpose) (met : Bool) → Covers c entered t place purpose met done → Covers (after spot incremental move c) entered t place purpose met done
    covers_after =
        covers_on same spot incremental c (after spot incremental move c) rule moments moments2 (history_kept same spot incremental lawful move c rule moments allowed).1 stored entered since t
        (place_follows same spot incremental c rule.common t low alive move allowed) place done

    pub asked_after : (n : ℕ) → Asked c entered t place done n → Asked (after spot incremental move c) entered t place done n
    asked_after =
        asked_on same spot incremental c (after spot incremental move c) rule moments moments2 (history_kept same spot incremental lawful move c rule moments allowed).1 stored entered since t
        (place_follows same spot incremental c rule.common t low alive move allowed) place done

module _ {K V : Type 0} (same : K → K → Bool) (hash : K → ℕ) (lawful : IsLawful same (spot_of hash)) (setting : Setting) (w : World (Node K V)) (caller : ℕ) (c : Chart K) (blocks : Blocks) (began : ℕ) (p : Sweep)
    (map : IsMapIn same hash setting w c blocks) (moments : Moments (is_incremental setting.mode) c) (entered : ℕ) (done : List ℕ) where
  -- its table is the one that it goes over
  pub turn_is : (t : ℕ) → IsTable c blocks p.table t → p.table.turn ≡ t
  turn_is t entered = ap (λ (x : Table). x.turn) entered.is

  pub low : (t : ℕ) → GoesOver same hash w caller setting c blocks began p t → p.table.turn ≤ c.first
  low t over = subst (λ (x : ℕ). x ≤ c.first) (sym (turn_is t over.table)) (upto same hash caller setting w c blocks began map t over.root)

  pub alive : (t : ℕ) → GoesOver same hash w caller setting c blocks began p t → c.status p.table.turn ≢ ABORTED
  alive t over = subst (λ (x : ℕ). c.status x ≢ ABORTED) (sym (turn_is t over.table)) (live same hash caller setting w c blocks began map t over.root)

  module _ (blocks2 : Blocks) (move : Move K) (allowed : Allowed same (spot_of hash) (is_incremental setting.mode) move c) (same_pairs : SamePairs c blocks blocks2) where
    names_after : (word n : ℕ) → NamesPair hash c blocks word n → NamesPair hash (after (spot_of hash) (is_incremental setting.mode) move c) blocks2 word n
    names_after =
        let lasts = (moves_keep same (spot_of hash) (is_incremental setting.mode) lawful move c map.map.rule allowed).1 in
        names_on hash c (after (spot_of hash) (is_incremental setting.mode) move c) blocks blocks2 lasts.stored lasts.keys same_pairs

    over_covers : (t place : ℕ) → GoesOver same hash w caller setting c blocks began p t → Covers c entered p.table.turn place p.purpose p.met done
        → Covers (after (spot_of hash) (is_incremental setting.mode) move c) entered p.table.turn place p.purpose p.met done
    over_covers t place over h =
        covers_after same (spot_of hash) (is_incremental setting.mode) lawful c map.map.rule moments move allowed entered h.since p.table.turn (low t over) (alive t over) place done p.purpose p.met h

    came_then : Came c entered p.purpose done → Came (after (spot_of hash) (is_incremental setting.mode) move c) entered p.purpose done
    came_then h = came_after same (spot_of hash) (is_incremental setting.mode) lawful c map.map.rule moments move allowed entered h.since p.purpose done h

    at_after : (stage : Sweeping) → SweepingFacts same hash w caller setting c blocks began p stage → CoversAt hash c blocks p entered done stage
        → CoversAt hash (after (spot_of hash) (is_incremental setting.mode) move c) blocks2 p entered done stage
    at_after at.Reads f h = tt
    at_after at.Follows f h = tt
    at_after (at.Copies copier) f h = tt
    at_after at.Ready f (inl (zero, came)) = inl (zero, came_then came)
    at_after at.Ready (walks, inr (t, over, most)) (inr (some, h)) = inr (some, over_covers t p.place over h)
    at_after at.Ready (walks, inl none) (inr (some, h)) = absurd (let zero : p.table.len ≡ 0 = ap (λ (x : Table). x.len) none.0 in omega (arith, some, zero))
    at_after at.Words (t, (over, inside)) h = over_covers t p.place over h
    at_after (at.Asks word) (retains, names, t, (over, inside)) (h, n, named, asked) = (
      over_covers t p.place over h,
      n,
      names_after word n named,
      asked_after same (spot_of hash) (is_incremental setting.mode) lawful c map.map.rule moments move allowed entered h.since p.table.turn (low t over) (alive t over) p.place done n asked,
    )
    at_after (at.Tries word) (taking, names, t, (over, inside)) h = over_covers t p.place over h
    at_after (at.Counts removed) (taking, t, (over, inside), taken) h = over_covers t (suc p.place) over h
    at_after (at.Disposes dispose) (taking, t, (over, inside), facts) h = over_covers t (suc p.place) over h
    at_after at.Over f h = came_then h
    at_after (at.Refused fault) f h = tt

    pub kept_after : SweepFacts same hash w caller setting c blocks began p → CoversAt hash c blocks p entered done p.stands
        → CoversAt hash (after (spot_of hash) (is_incremental setting.mode) move c) blocks2 p entered done p.stands
    kept_after f h = at_after p.stands f.point h

  -- where no move was made, blocks that can be looked at are what they were
  at_same : (blocks2 : Blocks) → SamePairs c blocks blocks2 → (stage : Sweeping) → CoversAt hash c blocks p entered done stage → CoversAt hash c blocks2 p entered done stage
  at_same blocks2 same_pairs (at.Asks word) (h, n, named, asked) = (h, n, names_on hash c c blocks blocks2 (omega arith) (λ o was. refl) same_pairs word n named, asked)
  at_same blocks2 same_pairs at.Reads h = h
  at_same blocks2 same_pairs at.Follows h = h
  at_same blocks2 same_pairs (at.Copies copier) h = h
  at_same blocks2 same_pairs at.Ready h = h
  at_same blocks2 same_pairs at.Words h = h
  at_same blocks2 same_pairs (at.Tries word) h = h
  at_same blocks2 same_pairs (at.Counts removed) h = h
  at_same blocks2 same_pairs (at.Disposes dispose) h = h
  at_same blocks2 same_pairs at.Over h = h
  at_same blocks2 same_pairs (at.Refused fault) h = h

  pub kept_moved : {i : ℕ} (c2 : Chart K) (blocks2 : Blocks) → Moved same hash setting.mode i c c2 → SamePairs c blocks blocks2 → SweepFacts same hash w caller setting c blocks began p
      → CoversAt hash c blocks p entered done p.stands → CoversAt hash c2 blocks2 p entered done p.stands
  kept_moved c2 blocks2 (inl e) same_pairs f h = subst (λ (x : Chart K). CoversAt hash x blocks2 p entered done p.stands) (sym e) (at_same blocks2 same_pairs p.stands h)
  kept_moved c2 blocks2 (inr (move, allowed, e, by)) same_pairs f h =
      subst (λ (x : Chart K). CoversAt hash x blocks2 p entered done p.stands) (sym e) (kept_after blocks2 move allowed same_pairs f h)

-- the promise
pub sweeps_stay_covered : {K : Type 0} (V : Type 0) (same : K → K → Bool) (hash : K → ℕ) → SweepsStayCovered V same hash
sweeps_stay_covered V same hash are setting w caller c blocks began p map moments f other m2 went entered done h =
    kept_moved same hash are.lawful setting w caller c blocks began p map moments entered done went.c2 went.blocks2 went.moved went.blocks_same.pairs f h
