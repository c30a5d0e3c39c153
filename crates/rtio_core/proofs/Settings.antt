-- The ranges of a core's settings, one by one.
use Rattle.std.proofs.Common.{ℕ, ◌≤◌, Bool, true, false, refl}
use Rattle.std.specs.Prelude.{◌&&◌, nat_le, IsTrue}
use Rattle.std.proofs.lemmas.Bool.{leb-true}
use Rattle.rtio_input.specs.Script.{are_edges_ok}
use Rattle.rtio_core.specs.declared.data.Config.{Config}
use Rattle.rtio_core.specs.Entries.{are_holds_ok, is_config_ok}
use Rattle.rtio_core.specs.Handed.{are_kept_ok}

pub both : (a b : Bool) → IsTrue (a && b) → IsTrue a × IsTrue b
both true b h = (refl, h)
both false b h = absurd (cc)

pub record AreInRange (config : Config) : Type 0 where
  pub lanes_least : 1 ≤ config.lanes
  pub lanes_most : config.lanes ≤ 32
  pub depth_least : 1 ≤ config.depth
  pub depth_most : config.depth ≤ 1024
  pub cost_most : config.cost ≤ 1000000
  pub horizon_least : 1 ≤ config.horizon
  pub horizon_most : config.horizon ≤ 576460752303423488
  pub edges : IsTrue (are_edges_ok config.edges)
  pub holds : IsTrue (are_holds_ok config.holds)
  pub kept : IsTrue (are_kept_ok config.kept)

least : (a b : ℕ) → IsTrue (nat_le a b) → a ≤ b
least a b h = leb-true a b h

ten : (a b c d e f g h i j : Bool) → IsTrue (a && b && c && d && e && f && g && h && i && j) → IsTrue a × IsTrue b × IsTrue c × IsTrue d × IsTrue e × IsTrue f × IsTrue g × IsTrue h × IsTrue i × IsTrue j
ten a b c d e f g h i j all =
    let nine = both (a && b && c && d && e && f && g && h && i) j all in
    let eight = both (a && b && c && d && e && f && g && h) i nine.0 in
    let seven = both (a && b && c && d && e && f && g) h eight.0 in
    let six = both (a && b && c && d && e && f) g seven.0 in
    let five = both (a && b && c && d && e) f six.0 in
    let four = both (a && b && c && d) e five.0 in
    let three = both (a && b && c) d four.0 in
    let two = both (a && b) c three.0 in
    let one = both a b two.0 in
    (one.0, one.1, two.1, three.1, four.1, five.1, six.1, seven.1, eight.1, nine.1)

pub ranges-of : (config : Config) → IsTrue (is_config_ok config) → AreInRange config
ranges-of config ok =
    let parts = ten (nat_le 1 config.lanes) (nat_le config.lanes 32) (nat_le 1 config.depth) (nat_le config.depth 1024) (nat_le config.cost 1000000) (nat_le 1 config.horizon) (nat_le config.horizon 576460752303423488) (are_edges_ok config.edges) (are_holds_ok config.holds) (are_kept_ok config.kept) ok in
    record {
      lanes_least = least 1 config.lanes parts.0;
      lanes_most = least config.lanes 32 parts.1;
      depth_least = least 1 config.depth parts.2;
      depth_most = least config.depth 1024 parts.3;
      cost_most = least config.cost 1000000 parts.4;
      horizon_least = least 1 config.horizon parts.5;
      horizon_most = least config.horizon 576460752303423488 parts.6;
      edges = parts.7;
      holds = parts.8;
      kept = parts.9;
    }

pub horizon-most : (config : Config) → IsTrue (is_config_ok config) → config.horizon ≤ 576460752303423488
horizon-most config ok = (ranges-of config ok).horizon_most
