-- A map with its first table, and no calls, stands together: the table is in use, nothing is behind it, and each open section holds it and sees it alone.
use Rattle.std.specs.Prelude.{length, ◌≡◌, ℕ, suc, ◌<◌, ◌≤◌, Bool, true, false, cond, List, [], ◌∷◌, Option, None}
use Rattle.std.specs.List.{All}
use Rattle.std.proofs.Common.{refl, ap, sym, subst, inl, arith}
use Rattle.many_calls.specs.Given.SeizeLaw.{With, where_is, is_somewhere, holds, owner_of}
use Rattle.many_calls.specs.Given.SeizeWorld.{World, InUse, IsInside, IsOnto}
use Rattle.many_calls.proofs.Given.SeizeMovesState.Logs.{reached_held}
use Rattle.many_calls.proofs.Given.SeizeAloneHistories.Reached.{Reached}
use Rattle.many_calls.proofs.Given.SeizeAloneHistories.Uses.{inside_open}
use Rattle.many_calls.specs.Given.TablesChunks.{is_incremental}
use Rattle.many_calls.specs.Given.TablesNodes.{deferred_word}
use Rattle.many_calls.specs.Given.TablesDeclared.node.Node.{Node}
use Rattle.many_calls.specs.Given.TablesDeclared.setting.Setting.{Setting}
use Rattle.many_calls.specs.Given.TablesDeclared.status.TheConstants.Status.{ABORTED}
use Rattle.many_calls.specs.Given.RuleChart.{Chart}
use Rattle.many_calls.specs.Given.RuleInWorld.{IsMapIn}
use Rattle.many_calls.specs.Given.RuleMaps.{spot_of}
use Rattle.many_calls.specs.Given.RuleMoments.{Moments}
use Rattle.many_calls.specs.Given.RuleMoves.{Links, after, is_done_by}
use Rattle.many_calls.specs.Given.RuleRule.{no_table}
use Rattle.many_calls.specs.Given.RuleWords.{Blocks}
use Rattle.many_calls.proofs.Given.RuleMoves.Totals.{total_none}
use Rattle.many_calls.specs.Given.PointsFactsCopies.{HasDone, ClaimsNone}
use Rattle.many_calls.specs.Given.PointsFactsCopiesBlocking.{HasNoShares}
use Rattle.many_calls.specs.Claims.{AreFew, ClaimsFit}
use Rattle.many_calls.specs.Kept.{IsUsersOwn, IsMaking, IsKeptBy, IsWithin}
use Rattle.many_calls.specs.Sights.{SourcesAreVisible, IsVisibility}
use Rattle.many_calls.specs.Together.{UnderWay, IsWriter, ToClaim, CameAbout, in_slot, Together}
use Rattle.many_calls.proofs.Rows.Defers.{used_stands}
use Rattle.many_calls.proofs.Together.Came.{came_reached}

-- what is so of turn 0 is so of each turn below 1
at_first : (P : ℕ → Type 0) → P 0 → (t : ℕ) → t < 1 → P t
at_first P here t l = subst P (let e : 0 ≡ t = omega (arith, l) in e) here

-- no calls are under way
module _ {K V Q : Type 0} (calls : ℕ → Option (UnderWay K V Q)) (none : (i : ℕ) → calls i ≡ None) where
  pub no_callers : (callers : List ℕ) → All (IsWriter calls) callers → length callers ≤ 0
  no_callers [] all = omega arith
  no_callers (x ∷ xs) all = absurd (let has = all 0 x (omega arith) in let is = has.1 in let no = none x in cc (is, no))

  pub none_to_claim : (t : ℕ) (callers : List ℕ) → All (ToClaim calls t) callers → length callers ≤ 0
  none_to_claim t [] all = omega arith
  none_to_claim t (x ∷ xs) all = absurd (let u = all 0 x (omega arith) in let is = u.1 in let n = none x in cc (is, n))

module _ {K V Q : Type 0} (same : K → K → Bool) (hash : K → ℕ) (asks : Q → K → Bool) (setting : Setting) (slot : ℕ → ℕ) (w : World (Node K V)) (len limit : ℕ) (blocks : Blocks) where
  -- the map has one table
  abbrev first : Chart K
  first = after (spot_of hash) (is_incremental setting.mode) (Links len limit) no_table

  module _ (came : CameAbout setting.batch_size w) (map : IsMapIn same hash setting w first blocks) (moments : Moments (is_incremental setting.mode) first)
      (owned : owner_of (blocks.table 0) w.log ≡ setting.counter) (none_behind : (x : ℕ) → where_is x w.log ≡ With (blocks.table 0) → ⊥)
      (none_onto : (j : ℕ) → IsOnto (blocks.table 0) (w.row j) → ⊥) (making : IsMaking (w.hand setting.counter)) (calls : ℕ → Option (UnderWay K V Q)) (none : (i : ℕ) → calls i ≡ None) where
    reached : Reached deferred_word setting.batch_size w
    reached = came_reached setting.batch_size w came

    used : w.hand (blocks.table 0) ≡ InUse setting.counter
    used = map.tables 0 (omega arith) (omega arith)

    kept : IsKeptBy w (blocks.table 0)
    kept = inl (inl (subst IsUsersOwn (sym used) tt))

    sources : SourcesAreVisible first blocks.table_known
    sources = at_first (λ t. blocks.table_known t ≡ true → first.status t ≡ ABORTED → blocks.table_known (first.from t) ≡ true) (λ known aborted. known)

    sight : IsVisibility first blocks (record { tables = blocks.table_known; pairs = blocks.pair_known })
    sight = record {
      tables = λ t made known. known;
      pairs = λ n was known. known;
      linked = λ t l made. map.map.shows.linked t l made;
      named = λ t p n phase borrowed made known e. map.map.shows.named t p n phase borrowed made known e;
      later = λ t u l made known. absurd (omega (arith, l, made));
      sources = sources;
    }

    within : (s : ℕ) → IsInside (w.uses s) → IsWithin w s first blocks setting
    within s in_it = record {
      inside = in_it;
      tables = at_first (λ t. blocks.table_known t ≡ true → holds s (blocks.table t) w.log ≡ true)
          (λ known. reached_held s (blocks.table 0) w.log (ap is_somewhere (used_stands deferred_word setting.batch_size w reached (blocks.table 0) used)) (inside_open deferred_word setting.batch_size w reached s in_it));
      pairs = λ n was known. absurd (omega (arith, was));
      counter = making;
    }

    idle : (i : ℕ) (b : Bool) → cond b (HasDone same hash w i (in_slot setting (slot i)) first blocks 0 × ClaimsNone same hash w i (in_slot setting (slot i)) first blocks)
        (HasNoShares same hash w i (in_slot setting (slot i)) first blocks)
    idle i true = (sym (total_none (is_done_by i) (first.share (suc first.first)) (first.len first.first) (λ j l. refl)), λ j e. cc e)
    idle i false = λ u j late. refl

    fits : ClaimsFit first (ToClaim calls)
    fits t made callers apart all = let few = none_to_claim calls none t callers all in omega (arith, few)

    few : AreFew (IsWriter calls)
    few callers apart all = let l = no_callers calls none callers all in omega (arith, l)

    pub first_table_together : Together V same hash asks setting slot w first blocks (λ s. record { tables = blocks.table_known; pairs = blocks.pair_known }) calls
    first_table_together = record {
      ground = record {
        came = came;
        map = map;
        moments = moments;
        kept = record { tables = at_first (λ t. blocks.table_known t ≡ true → IsKeptBy w (blocks.table t)) (λ known. kept); pairs = λ n was known. absurd (omega (arith, was)) };
        owned = record {
          tables = at_first (λ t. blocks.table_known t ≡ true → owner_of (blocks.table t) w.log ≡ setting.counter) (λ known. owned);
          pairs = λ n was known. absurd (omega (arith, was));
        };
        behind = λ t x l made at. absurd (at_first (λ u. where_is x w.log ≡ With (blocks.table u) → ⊥) (none_behind x) t made at);
        sources = sources;
        counter = making;
        sight = λ s in_it. (sight, within s in_it);
      };
      inside = λ i u e. absurd (let is = none i in cc (is, e));
      stand = λ i u e. absurd (let is = none i in cc (is, e));
      idle = λ i e. idle i (is_incremental setting.mode);
      onto = λ t j l made on. absurd (at_first (λ u. IsOnto (blocks.table u) (w.row j) → ⊥) (none_onto j) t made on);
      few = λ blocking. record { few = few; claims = fits };
    }
