mod WriteTold
mod AnswerTold
mod AskTold
