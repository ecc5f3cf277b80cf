-- `script::words::read_word` meets its contract: the longer words, octet by octet. Assumes nothing.
use Rattle.std.proofs.Common.{rules, ◌≡◌, codes}
use Rattle.std.proofs.lemmas.Slice.Eq.{text_from_reads}
use Rattle.script.proofs.words.read_word.Goals as goal

pub returns-in-message : goal.returns-in-message
returns-in-message c = let e : c.args.w.now ≡ codes "message" = search (rules, text_from_reads) in rw e

pub returns-in-connect : goal.returns-in-connect
returns-in-connect c = let e : c.args.w.now ≡ codes "connect" = search (rules, text_from_reads) in rw e

pub returns-in-reload : goal.returns-in-reload
returns-in-reload c = let e : c.args.w.now ≡ codes "reload" = search (rules, text_from_reads) in rw e

pub returns-in-restart : goal.returns-in-restart
returns-in-restart c = let e : c.args.w.now ≡ codes "restart" = search (rules, text_from_reads) in rw e

pub returns-in-putback : goal.returns-in-putback
returns-in-putback c = let e : c.args.w.now ≡ codes "putback" = search (rules, text_from_reads) in rw e
