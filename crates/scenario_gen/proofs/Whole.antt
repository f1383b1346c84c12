-- A scenario is the one that the words give, where each of its parts is.
use Rattle.std.proofs.Common.{◌≡◌, ℕ, ◌+◌, ◌%◌, List, refl}
use Rattle.hb_base.specs.Limits.{most_rounds}
use Rattle.hb_base.specs.Numbers.{Numbers, numbers}
use Rattle.net_script.specs.declared.script.Order.TheVariants.{Fifo}
use Rattle.net_script.specs.declared.script.Submit.{Submit}
use Rattle.net_script.specs.declared.script.LiarAt.{LiarAt}
use Rattle.net_script.specs.declared.script.Link.{Link}
use Rattle.net_script.specs.Scenario.{Planned, Scenario}
use Rattle.scenario_gen.specs.Generated.{faulty, liar_marks, nodes, submits, liars, links, plans, scenario_by}

-- n, the epochs, the batch and the workers are drawn from the first words, and the rest goes by n
pub whole : (number : ℕ) (w : ℕ → ℕ) (n epochs batch workers : ℕ) (config : Numbers) (submit : List Submit) (liars_are : List LiarAt) (links_are : List Link) (plans_are : List Planned)
    → n ≡ nodes w → epochs ≡ 2 + w 1 % 4 → batch ≡ 8 + w 2 % 16 → workers ≡ 1 + w 3 % 3
    → config ≡ numbers n (faulty n) epochs most_rounds batch number 1 (liar_marks n) → submit ≡ submits n w → liars_are ≡ liars n w → links_are ≡ links n → plans_are ≡ plans n w
    → (let s : Scenario = record { config = config; workers = workers; order = Fifo; submit = submit; liars = liars_are; links = links_are; plans = plans_are } in s) ≡ scenario_by number w
whole number w n epochs batch workers config submit liars_are links_are plans_are is_n is_epochs is_batch is_workers config_is submit_is liars_is links_is plans_is =
    rw (config_is, submit_is, liars_is, links_is, plans_is, is_workers, is_epochs, is_batch, is_n) refl
