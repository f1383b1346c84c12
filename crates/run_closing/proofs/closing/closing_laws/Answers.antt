use Rattle.run_closing.proofs.Whole.{many, all_in, is_run_of}
use Rattle.run_closing.proofs.closing.closing_laws.Goals as goal

pub returns : goal.returns
returns c = record { as_many = many; all = all_in; report = is_run_of }
