use Rattle.sheet.proofs.Playing.{play_turn, play_response, play_misshapen}
use Rattle.sheet.proofs.play.Goals as goal

pub returns-in-Turn : goal.returns-in-Turn
returns-in-Turn c = search play_turn

pub returns-in-Response : goal.returns-in-Response
returns-in-Response c = search play_response

pub returns-in-Misshapen : goal.returns-in-Misshapen
returns-in-Misshapen c = search play_misshapen
