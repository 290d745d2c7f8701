-- A copier whose source the root has left is done with a place of its range, and knows what it goes on with.
use Rattle.std.specs.Prelude.{nat_lt}
use Rattle.std.proofs.Common.{◌≡◌, ℕ, ◌+◌, ◌-◌, ◌%◌, ◌^◌, ◌==◌, Bool, true, false, refl, arith}
use Rattle.std.proofs.lemmas.Bool.{ltb-true}
use Rattle.map_facts.specs.Given.SeizeWorld.{World}
use Rattle.map_facts.specs.Given.TablesChunks.{is_incremental}
use Rattle.map_facts.specs.Given.TablesDeclared.node.Node.{Node}
use Rattle.map_facts.specs.Given.TablesDeclared.setting.Setting.{Setting}
use Rattle.map_facts.specs.Given.ResizeCopierStates.{place_done}
use Rattle.map_facts.specs.Given.ResizeDeclared.copier.Copier.{Copier}
use Rattle.map_facts.specs.Given.ResizeDeclared.copier.Copying.TheVariants as at
use Rattle.map_facts.specs.Given.RuleChart.{Chart}
use Rattle.map_facts.specs.Given.RuleWords.{Blocks}
use Rattle.map_facts_late.specs.LateCopies.{CopiesSuperseded, CopiesAborted, HasRange, SupersededCopying}
use Rattle.map_facts_late.proofs.Copiers.LateWent.{late_on}

module _ {K V : Type 0} (same : K → K → Bool) (hash : K → ℕ) (caller : ℕ) (setting : Setting) (began : ℕ) (w : World (Node K V)) (c : Chart K) (blocks : Blocks)
    (p : Copier) (setting_is : p.setting ≡ setting) (u t : ℕ) (aborted : CopiesAborted same hash w caller setting c blocks began p u t)
    (inside : HasRange same hash w caller setting c blocks began p u) where
  pub record LateGoesOn : Type 0 where
    pub next : Copier
    pub next_is : place_done p ≡ next
    pub setting_stays : next.setting ≡ setting
    pub point : SupersededCopying same hash w caller setting c blocks began next next.stands

  on : (q : Copier) → q.source ≡ p.source → q.target ≡ p.target → q.whole ≡ p.whole → CopiesSuperseded same hash w caller setting c blocks began q u t
  on q source target whole = late_on same hash caller setting began w c blocks p q source target whole u t aborted.0

  pub late_goes_on : LateGoesOn
  late_goes_on = by_place (nat_lt p.place (p.end - 1)) refl
    where
      by_count : nat_lt p.place (p.end - 1) ≡ false → (b : Bool) → ((p.done + 1) % 2 ^ 64 == 0) ≡ b → LateGoesOn
      by_count e true none = record {
        next = record p { done = (p.done + 1) % 2 ^ 64; place = 0; end = 0; spent = is_incremental p.setting.mode; stands = at.Asks };
        next_is = rw (e, none, aborted.0.whole) refl;
        setting_stays = setting_is;
        point = (u, t, on (record p { done = (p.done + 1) % 2 ^ 64; place = 0; end = 0; spent = is_incremental p.setting.mode; stands = at.Asks }) refl refl refl);
      }
      by_count e false some = record {
        next = record p { done = (p.done + 1) % 2 ^ 64; stands = at.Counts };
        next_is = rw (e, some) refl;
        setting_stays = setting_is;
        point = (u, t, (on (record p { done = (p.done + 1) % 2 ^ 64; stands = at.Counts }) refl refl refl, aborted.1));
      }

      by_place : (b : Bool) → nat_lt p.place (p.end - 1) ≡ b → LateGoesOn
      by_place true e = record {
        next = record p { done = (p.done + 1) % 2 ^ 64; place = p.place + 1; stands = at.Marks };
        next_is = rw e refl;
        setting_stays = setting_is;
        point = (
          u,
          t,
          (on (record p { done = (p.done + 1) % 2 ^ 64; place = p.place + 1; stands = at.Marks }) refl refl refl, aborted.1),
          ((let below = ltb-true p.place (p.end - 1) e in omega (arith, below)), inside.1),
        );
      }
      by_place false e = by_count e ((p.done + 1) % 2 ^ 64 == 0) refl
