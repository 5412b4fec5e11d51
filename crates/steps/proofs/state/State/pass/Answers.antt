use mathlib.Core.List.{List}
use mathlib.Core.Path.{refl, subst}
use Prim.Native.Nat.{ℕ}
use Rattle.kinds.specs.Sets.{set_of}
use Rattle.definition.specs.Run as P
use Rattle.notes.specs.Means.{source}
use Rattle.notes.specs.Did.{Plain}
use Rattle.notes.proofs.Naming.{set_names}
use Rattle.notes.proofs.Sticky.{sticky}
use Rattle.steps.specs.Steps.{whole}
use Rattle.steps.proofs.Modes.{fine, not_fine}
use Rattle.steps.proofs.Next.{next_end}
use Rattle.steps.proofs.Eating.{not_ok_p}
use Rattle.steps.proofs.Branch.{pass_names, pass_end, next_other_of}
use Rattle.steps.proofs.state.State.pass.Goals as goal

pub returns-then-isnt : goal.returns-then-isnt
returns-then-isnt c = λ bytes ends w e. not_ok_p _ (λ p. (sticky p (source bytes c.args.rows.now.ids.now ends)).at_ifnext (set_of c.args.set) (λ a. a) (λ a n. refl)) w (not_fine _ c.if-isnt.ensures)

pub returns-then-at-rows : goal.returns-then-at-rows
returns-then-at-rows c = λ bytes ends w e. pass_end (set_of c.args.set) w (fine _ c.if-isnt.ensures) (next_end (set_of c.args.set) c.peek-at.ensures c.if-at-rows.true)

pub returns : goal.returns
returns c = λ bytes ends w e. pass_names (set_of c.args.set) w (fine _ c.if-isnt.ensures) (next_other_of (set_of c.args.set) c.args.rows.now.ids.now (whole c.args.self c.args.notes.now) (fine _ c.if-isnt.ensures) c.peek-at.ensures c.if-at-rows.false e) (subst (λ (N : List ℕ). Plain (P.expected N) (source bytes c.args.rows.now.ids.now ends) (whole c.args.self c.args.notes.now) (whole c.args.self c.expected.new.self)) (set_names c.args.set c.requires.3) (c.expected.ensures (source bytes c.args.rows.now.ids.now ends) (whole c.args.self c.args.notes.now) w c.peek-at.ensures))
