use Rattle.uses.proofs.Words.{words-end, words-step}
use Rattle.uses.proofs.pixels.following.Goals as goal

pub returns-in-Some : goal.returns-in-Some
returns-in-Some c = words-step c.args.words.now c.next.new.self c.in-Some.word c.in-Some.ensures.steps

pub returns-in-None : goal.returns-in-None
returns-in-None c = words-end c.args.words.now c.next.new.self c.in-None.ensures.steps
