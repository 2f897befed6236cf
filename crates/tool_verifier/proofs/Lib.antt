mod Answering
mod OneAnswer
