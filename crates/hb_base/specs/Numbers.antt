-- The numbers of a run.
use Rattle.std.specs.Prelude.{◌≡◌, ℕ, ◌*◌, ◌<◌, ◌≤◌, Bool, true, List}
use Rattle.hb_base.specs.Counting.{count_nodes}
use Rattle.hb_base.specs.Limits.{most_nodes, most_faulty, most_epochs, most_rounds, most_batch, latest_version}
use Rattle.hb_base.specs.NodeSet.{is_in}

-- what a `Config` says
pub record Numbers : Type 0 where
  pub n : ℕ
  pub f : ℕ
  pub epochs : ℕ
  pub rounds : ℕ
  pub batch : ℕ
  pub seed : ℕ
  pub version : ℕ
  pub liars : List Bool

abbrev pub numbers : ℕ → ℕ → ℕ → ℕ → ℕ → ℕ → ℕ → List Bool → Numbers
numbers n f epochs rounds batch seed version liars = record {
  n = n;
  f = f;
  epochs = epochs;
  rounds = rounds;
  batch = batch;
  seed = seed;
  version = version;
  liars = liars;
}

-- a number between two others, both included
abbrev pub IsBetween : ℕ → ℕ → ℕ → Type 0
IsBetween low high number = (low ≤ number) × (number ≤ high)

-- the numbers of a run that can be built: each within its limits, at most f liars among the n nodes, and n > 3f
pub record AreSound (c : Numbers) : Type 0 where
  pub nodes : IsBetween 1 most_nodes c.n
  pub faulty : IsBetween 0 most_faulty c.f
  pub enough : 3 * c.f < c.n
  pub epochs : IsBetween 1 most_epochs c.epochs
  pub rounds : IsBetween 1 most_rounds c.rounds
  pub batch : IsBetween 1 most_batch c.batch
  pub version : IsBetween 1 latest_version c.version
  pub known : (node : ℕ) → node < most_nodes → is_in c.liars node ≡ true → node < c.n
  pub few : count_nodes most_nodes (is_in c.liars) ≤ c.f
