-- `netlist::Word::with` meets its contract.
-- Assumes nothing.
use Rattle.netlist.proofs.Packing.{word_first_more, word_second_more, word_none_more}
use Rattle.netlist.proofs.Word.with.Goals as goal

pub returns-then-length-lt8 : goal.returns-then-length-lt8
returns-then-length-lt8 c letters e proper =
    let a = c.args in
    word_first_more a.self letters a.letter e proper c.if-length-lt8.true c.followed.result c.followed.ensures

pub returns-then-length-lt16 : goal.returns-then-length-lt16
returns-then-length-lt16 c letters e proper =
    let a = c.args in
    word_second_more a.self letters a.letter e proper c.if-length-lt8.false c.if-length-lt16.true
    c.followed-then-length-lt16.result c.followed-then-length-lt16.ensures

pub returns : goal.returns
returns c letters e proper =
    let a = c.args in
    word_none_more a.self letters a.letter e c.if-length-lt16.false
